pub mod RecordLemmas
pub mod RelativeLemmas
pub mod BatchLemmas
pub mod SizeLemmas
pub mod ListedLemmas
pub mod WritingLemmas
