-- What contracts see of an auction.
use Rattle.goods_set.specs.declared.set.GoodsSet.{Ghosts}
use Rattle.valuation.specs.Auctions.{PlainAuction}
use Rattle.valuation.specs.Bidders.{plain_auction_of}
use Rattle.valuation.specs.declared.auction.Auction.{Auction}

-- an auction of the code as a value
abbrev pub plain_auction : {S : Type 0} {g : Ghosts S} → Auction S g → PlainAuction
plain_auction {g = g} a = plain_auction_of g.goods a.goods a.or_atoms.items a.xor_bidders.items
