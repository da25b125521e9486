mod OtherLemmas
mod PrintLemmas
mod ReplayLemmas
