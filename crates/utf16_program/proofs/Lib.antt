pub mod ItemLemmas
pub mod ScanLemmas
pub mod FollowLemmas
pub mod WellFormedLemmas
pub mod CheckLemmas
pub mod BlockLemmas
pub mod MessageLemmas
pub mod LineLemmas
