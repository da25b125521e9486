mod AsBox
mod ReportLemmas
mod BatchLemmas
mod HeaderLemmas
mod HeldLemmas
mod SendLemmas
