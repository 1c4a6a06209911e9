-- What is answered of two files: the first difference, the verdict, and the index of auctions.
pub mod Answering
pub mod Differences
pub mod SameDifferences
pub mod Comparisons
pub mod Alike
pub mod DummiesExchanged
pub mod Indexing
