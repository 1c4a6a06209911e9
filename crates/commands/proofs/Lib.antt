-- Proofs that several functions cite, here and in the crates above.
pub mod Common
mod Columns
pub mod Lines
pub mod Explanations
pub mod ComparedFiles
pub mod BidNumbers
pub mod BidsOfFiles
pub mod ByNumber
mod Numbering
mod Bundling
mod BestPlaces
mod Printing
mod Pairing
mod NamedBids
mod MetLimits
pub mod Judging
mod Sizing
