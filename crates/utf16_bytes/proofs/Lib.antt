pub mod SwapLemmas
pub mod TextLemmas
pub mod CutLemmas
pub mod FloorLemmas
pub mod PartsLemmas
pub mod ShardLemmas
pub mod WindowLemmas
pub mod AffixTests
pub mod PatternLemmas
mod PassedBytes
pub mod AlikeLemmas
pub mod FoundLemmas
pub mod RunLemmas
pub mod OccurrenceLemmas
mod NulLemmas
