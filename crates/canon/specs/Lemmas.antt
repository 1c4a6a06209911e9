-- Lemmas on the definitions beside this folder, for proofs here and in the crates above. No contract cites them.
pub mod Renaming
pub mod Finding
pub mod OrDifferences
pub mod PriceChanges
pub mod FirstChanges
pub mod BidderDifferences
pub mod CanonicalOrders
pub mod TextMaps
