-- What the contracts of this crate cite.
pub mod Calls
pub mod Examples
