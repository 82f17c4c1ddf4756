pub mod Append
pub mod Utf8
pub mod Lanes
pub mod Pack
pub mod Block
pub mod Cursor
