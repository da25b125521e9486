pub mod BrokerWords
pub mod CommandLine
pub mod Commands
pub mod OptionRules
pub mod OptionWords
pub mod RunCommand
pub mod RunWords
