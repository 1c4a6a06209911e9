-- What the contracts of this crate cite.
pub mod Tasks
pub mod Requests
