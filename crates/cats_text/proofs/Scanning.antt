-- From bytes to words: the scanner gives what the parser gives. The parser has the words of the bytes' lines.
pub mod Lines
pub mod AllBytes
pub mod BidLines
pub mod Pieces
pub mod Appends
pub mod Rests
pub mod ManyBytes
pub mod FewDigits
pub mod LeadingTokens
pub mod WholeWords
pub mod ManyGoods
pub mod BidEnds
