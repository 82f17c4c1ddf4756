pub mod Converted
pub mod Edited
pub mod Predicates
pub mod PrefixRules
pub mod Removed
pub mod Views
pub mod Asked
pub mod PlainUnits
pub mod NextChar
pub mod Retained
mod FirstMatch
mod Matches
mod Replacing
mod ReplacedAll
mod Ranged
mod ChangedUnits
mod Cased
mod ChangedTo
mod Joined
mod Appended
mod Repeated
mod Written
