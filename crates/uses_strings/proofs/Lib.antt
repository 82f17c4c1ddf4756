pub mod Tests
pub mod KeyCut
mod Ordered
pub mod Fronts
