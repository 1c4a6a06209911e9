-- Proofs that several functions of this crate cite.
pub mod Common
pub mod Answering
pub mod FirstNames
pub mod NumbersSoFar
pub mod Reading
pub mod Lines
pub mod PlainWords
