mod LogLemmas
pub mod TextLemmas
