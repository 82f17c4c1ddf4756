pub mod Split
pub mod Laws
pub mod Recipe
pub mod Boundary
pub mod CutLaws
