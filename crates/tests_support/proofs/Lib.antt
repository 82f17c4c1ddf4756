pub mod AtCell
pub mod Steps
pub mod Walks
