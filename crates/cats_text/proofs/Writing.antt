-- The layout of a file spells it. It is sent in pieces.
pub mod Zeros
pub mod Numerals
pub mod SixDigits
pub mod Ends
pub mod TextLines
pub mod Prices
pub mod BidTexts
pub mod Lines
pub mod Spells
pub mod Pieces
