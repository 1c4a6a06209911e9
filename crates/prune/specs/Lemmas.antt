-- Lemmas on the definitions beside this folder, for proofs here and in the crates above. No contract cites them.
pub mod Fates
pub mod InOrder
pub mod KeptBids
pub mod Lists
pub mod OnBundles
pub mod PackingIndices
pub mod Points
pub mod Ranges
pub mod Refusals
pub mod SameBids
pub mod SearchSteps
pub mod Tables
pub mod ValuePoints
pub mod Values
