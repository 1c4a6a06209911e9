-- Proofs that several functions of this crate cite.
pub mod Common
pub mod Spans
pub mod Words
pub mod Worth
pub mod Deciding
pub mod TextLines
pub mod Pieces
pub mod Exactness
pub mod PriceValues
pub mod FileLines
pub mod RoundedWords
pub mod RoundedFiles
pub mod Headers
pub mod Layouts
pub mod MendedLines
pub mod MendedTexts
