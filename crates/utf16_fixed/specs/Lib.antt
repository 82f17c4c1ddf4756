pub mod StopsLatin1
pub mod Written
pub mod Repertoire
pub mod Inspection
pub mod Utf32
pub mod Stops32
pub mod Pairs
pub mod Progress
