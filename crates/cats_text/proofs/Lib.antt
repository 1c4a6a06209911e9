-- Proofs that several functions of this crate cite.
pub mod Common
pub mod Words
pub mod Parsing
pub mod Scanning
pub mod Texts
pub mod Feeding
pub mod Spelling
pub mod Writing
