pub mod Wtf8
pub mod ToWtf8
pub mod FromWtf8
pub mod Stream
pub mod Laws
