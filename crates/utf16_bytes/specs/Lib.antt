pub mod Boundary
pub mod File
pub mod CutLaws
pub mod Shards
pub mod SearchLaws
pub mod Occurrence
pub mod Nul
