-- What the contracts of this crate cite.
pub mod Values
pub mod Packings
pub mod Bounds
pub mod SearchSteps
pub mod SearchLimits
pub mod Tables
pub mod Orders
pub mod Auctions
pub mod Bidders
pub mod Searches
pub mod ValueLimits
pub mod Listed
pub mod Views
pub mod Examples
pub mod Sorting
pub mod Lemmas
pub mod Internal
