-- From words to lines: the parser gives what the definitions say. They say it of the lines and words so far.
pub mod States
pub mod NumbersTaken
pub mod Headers
pub mod Bids
pub mod GoodsSoFar
pub mod Goods
pub mod Lines
pub mod WholeLines
pub mod BidsByNumber
