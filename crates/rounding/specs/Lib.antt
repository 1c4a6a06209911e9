-- What the contracts of this crate cite.
pub mod Decimals
pub mod Nearest
pub mod Replacements
pub mod Texts
pub mod Layouts
pub mod Multiplied
pub mod Views
pub mod Pieces
pub mod Answers
pub mod Internal
