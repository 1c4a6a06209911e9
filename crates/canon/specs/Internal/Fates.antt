-- What became of the best bids of all bidders of an auction.
use Rattle.std.specs.Prelude.{◌≡◌, map}
use Rattle.valuation.specs.Auctions.{PlainAuction}
use Rattle.valuation.specs.declared.search.kind.SearchKind.{SearchKind}
use Rattle.prune.specs.Fates.{or_fates, plain_fate, xor_fates}
use Rattle.canon.specs.declared.normal.named.BidderFates.{BidderFates}

-- those of the OR bidder, by searches of a kind, and of each XOR bidder
pub record AreFates (kind : SearchKind) (a : PlainAuction) (fates : BidderFates) : Type 0 where
  pub or : map plain_fate fates.or.items ≡ or_fates kind a.goods a.or_atoms
  pub xor : map (λ own. own.items) fates.xor.items ≡ map (xor_fates a.goods) a.xor_bidders
