mod FormLemmas
mod LatencyLemmas
mod LedgerLemmas
mod NearLemmas
mod SenderLemmas
mod StreamingLemmas
