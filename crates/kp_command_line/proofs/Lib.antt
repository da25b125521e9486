mod BrokerWordsLemmas
mod CommandLineLemmas
pub mod OptionRulesLemmas
pub mod OptionWordsLemmas
