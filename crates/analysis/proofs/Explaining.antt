-- Reasons: why each bid is kept or dropped, by one walk over the bids in order.
pub mod BestBids
pub mod KeptBidsLists
pub mod KeptBidsBest
pub mod KeptBids
pub mod Deciding
pub mod PointFates
pub mod BestNumbers
pub mod Packings
pub mod KeptPoints
pub mod TrueReasons
pub mod Passed
pub mod KeptStarts
pub mod NextBest
pub mod Turning
pub mod Reasoned
