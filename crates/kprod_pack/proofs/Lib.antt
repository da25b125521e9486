mod OtherLemmas
mod PrintLemmas
