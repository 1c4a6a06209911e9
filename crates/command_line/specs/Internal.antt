-- What the contracts of private functions cite.
pub mod Matches
pub mod Named
