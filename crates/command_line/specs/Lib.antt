-- What the contracts of this crate cite.
pub mod Commands
pub mod Numbers
pub mod NumberLists
pub mod Requests
pub mod Internal
