-- Walks over the bids of two files, one by one and bidder by bidder.
pub mod BidRuns
pub mod BidOrders
pub mod SplitBidders
pub mod BidderWalks
pub mod PriceWalks
pub mod OrWalks
