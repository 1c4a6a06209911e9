-- What only this crate cites.
pub mod Rests
pub mod Values
pub mod RawTexts
