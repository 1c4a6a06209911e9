-- Lemmas on the definitions beside this folder, for proofs here and in the crates above. No contract cites them.
pub mod AllBundles
pub mod BundleFacts
pub mod SortKeys
pub mod GoodByGood
pub mod Laws
pub mod LowestBits
pub mod Members
pub mod Orders
pub mod Sizes
pub mod Sorted
pub mod Words
