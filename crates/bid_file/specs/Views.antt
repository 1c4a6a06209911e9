-- What contracts see of a bid file.
use Rattle.std.specs.Prelude.{ℕ, List, slice_range}
use Rattle.bid_file.specs.Files.{PlainBid, PlainFile, plain_bids}
use Rattle.bid_file.specs.declared.bid.BidFile.{BidFile}
use Rattle.bid_file.specs.declared.bids.BidRef.{BidRef}
use Rattle.bid_file.specs.declared.packed.BidSpan.{BidSpan}

-- a file of the code as a value
abbrev pub plain_file : BidFile → PlainFile
plain_file f = record { goods = f.goods; dummy = f.dummy; bids = plain_bids f.bids.items }

-- a bid of a packed file with these goods as a value
abbrev pub spanned : List ℕ → BidSpan → PlainBid
spanned goods o = record { price = o.price; goods = slice_range goods o.start o.end; dummy = o.dummy }

-- a bid, read in either type of file, as a value
abbrev pub seen_bid : BidRef → PlainBid
seen_bid b = record { price = b.price; goods = b.goods.now; dummy = b.dummy }
