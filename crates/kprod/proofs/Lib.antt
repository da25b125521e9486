mod RunTextLemmas
mod RunLooksLemmas
