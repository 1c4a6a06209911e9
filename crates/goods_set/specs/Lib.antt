-- What the contracts of this crate cite.
pub mod Bundles
pub mod Orders
pub mod SortKeys
pub mod Words
pub mod Sets
pub mod Lemmas
pub mod Internal
