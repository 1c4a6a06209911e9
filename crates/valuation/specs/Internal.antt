-- What the contracts of private functions cite, and the facts that private types keep. No public contract rests on
-- them.
pub mod Holders
pub mod Reaching
pub mod GoodPrices
pub mod ValueSearch
pub mod Searches
pub mod Conflicts
pub mod Listed
