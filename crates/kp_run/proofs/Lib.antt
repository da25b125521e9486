mod GatheredLemmas
mod JobLemmas
mod JobsLemmas
mod OptionsLemmas
mod RunsLemmas
