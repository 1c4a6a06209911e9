-- Proofs that several functions cite, here and in the crate `commands`.
pub mod Common
pub mod Explaining
pub mod Allocating
pub mod Comparing
