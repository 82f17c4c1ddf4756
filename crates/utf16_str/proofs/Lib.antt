pub mod OffsetLemmas
mod SearchLemmas
mod SplitLemmas
pub mod CharSearch
pub mod StrLemmas
mod AffixLemmas
mod CommonLemmas
pub mod PrefixRules
mod TrimLemmas
mod LineLemmas
mod WordLemmas
mod CaseLemmas
pub mod PartLemmas
mod PartCounts
mod PartAbsent
pub mod CutFront
mod CutBack
mod FirstLemmas
mod CharFound
mod FoundLemmas
mod CountLemmas
mod JoinLemmas
mod WithinLemmas
mod PartWindows
mod MatchLemmas
mod NextLemmas
mod BackNext
mod AroundLemmas
mod BackLines
pub mod TrimMatches
mod PredicatePassed
mod PredicateFinds
mod PredicateTrims
mod PredicateCuts
mod PredicateAround
mod PredicateSplitRuns
mod PredicateWithin
mod Utf8Size
pub mod PredicateRestated
pub mod Overwritten
mod Lent
mod LentSteps
mod LentValues
mod LentResults
