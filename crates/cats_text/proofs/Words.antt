-- A word: what is kept of it answers all tests of the grammar.
pub mod Places
pub mod Kept
pub mod Tests
