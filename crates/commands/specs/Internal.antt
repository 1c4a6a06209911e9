-- What the contracts of private functions cite. No public contract rests on them.
pub mod ComparedFiles
pub mod Sides
pub mod Pairs
pub mod Searches
pub mod Values
pub mod WiderTotals
