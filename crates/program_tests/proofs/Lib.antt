-- Proofs that several functions of this crate cite.
pub mod TextsInMemory
