mod OfferedLemmas
mod PackedLemmas
