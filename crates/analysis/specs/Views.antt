-- What contracts see of the differences.
use Rattle.std.specs.Prelude.{map}
use Rattle.canon.specs.PriceChanges.{plain_change}
use Rattle.analysis.specs.BidderChanges.{PlainBidderChange}
use Rattle.analysis.specs.Differences.{PlainDifferences}
use Rattle.analysis.specs.declared.differences.change.BidderChange.{BidderChange}
use Rattle.analysis.specs.declared.differences.change.Differences.{Differences}

abbrev pub plain_bidder_change : BidderChange → PlainBidderChange
plain_bidder_change c = record { left = c.left; right = c.right; bids = map plain_change c.bids.items }

-- differences of the code as a value
abbrev pub plain_differences : Differences → PlainDifferences
plain_differences d = record {
  goods = d.goods;
  bundles = map plain_change d.bundles.items;
  bidders = map plain_bidder_change d.bidders.items;
}
