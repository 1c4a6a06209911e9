-- Proofs that several functions of this crate cite.
pub mod Common
pub mod Bits
pub mod Firsts
pub mod Lanes
pub mod Places
pub mod Scans
pub mod Listed
pub mod LongWords
