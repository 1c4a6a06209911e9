-- Bids, files and changes for worked examples. Prices are millionths.
use Rattle.std.specs.Prelude.{ℕ, List, Some, None, Option}
use Rattle.bid_file.specs.Files.{PlainBid, PlainFile}
use Rattle.valuation.specs.declared.atom.Atom.{Atom}
use Rattle.canon.specs.PriceChanges.{PlainChange}
use Rattle.analysis.specs.BidderChanges.{PlainBidderChange}
use Rattle.analysis.specs.Differences.{PlainDifferences}

-- a bid of the OR bidder
abbrev pub or_bid : List ℕ → ℕ → PlainBid
or_bid goods price = record { price = price; goods = goods; dummy = None }

-- a bid of the XOR bidder of a dummy good
abbrev pub xor_bid : ℕ → List ℕ → ℕ → PlainBid
xor_bid d goods price = record { price = price; goods = goods; dummy = Some d }

abbrev pub file : ℕ → ℕ → List PlainBid → PlainFile
file goods dummy bids = record { goods = goods; dummy = dummy; bids = bids }

abbrev pub atom : List ℕ → ℕ → Atom (List ℕ)
atom bundle price = record { bundle = bundle; price = price }

abbrev pub change : List ℕ → Option ℕ → Option ℕ → PlainChange
change bundle left right = record { bundle = bundle; left = left; right = right }

abbrev pub bidder_change : Option ℕ → Option ℕ → List PlainChange → PlainBidderChange
bidder_change left right bids = record { left = left; right = right; bids = bids }

abbrev pub differences : Option (ℕ × ℕ) → List PlainChange → List PlainBidderChange → PlainDifferences
differences goods bundles bidders = record { goods = goods; bundles = bundles; bidders = bidders }
