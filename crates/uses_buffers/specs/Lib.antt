pub mod FormCalls
pub mod Forms
pub mod Block
pub mod Calls
pub mod Given
pub mod OneSplit
pub mod Utf8Parts
