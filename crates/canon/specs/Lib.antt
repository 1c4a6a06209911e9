-- What the contracts of this crate cite.
pub mod Sameness
pub mod Canonical
pub mod Unsearched
pub mod Renaming
pub mod Normalising
pub mod Answers
pub mod Least
pub mod Refusals
pub mod Examples
pub mod Bidders
pub mod Difference
pub mod PriceChanges
pub mod Verdicts
pub mod Comparing
pub mod FirstNumbers
pub mod Lemmas
pub mod Internal
