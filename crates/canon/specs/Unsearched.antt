-- What can be said of a file without any search. Its XOR bidders are canonical. Of the OR bidder those bids stay that
-- no other bid replaces, by a bundle inside theirs and at least their price: the points of these bids as XOR bids. OR
-- values depend on them alone.
use Rattle.std.specs.Prelude.{◌≡◌, ℕ, List}
use Rattle.bid_file.specs.Files.{PlainFile}
use Rattle.cats_text.specs.Layout.{layout}
use Rattle.valuation.specs.declared.atom.Atom.{Atom}
use Rattle.valuation.specs.Auctions.{PlainAuction, auction_from}
use Rattle.prune.specs.Points.{xor_points}
use Rattle.canon.specs.Canonical.{canonical_bidders, file_from}

-- the bids of the OR bidder that no single bid replaces
abbrev pub unreplaced_bids : PlainAuction → List (Atom (List ℕ))
unreplaced_bids a = xor_points a.goods a.or_atoms

-- the canonical XOR bidders, and the OR bids that no single bid replaces
abbrev pub unsearched_auction : PlainAuction → PlainAuction
unsearched_auction a = record {
  goods = a.goods;
  or_atoms = unreplaced_bids a;
  xor_bidders = canonical_bidders a.goods a.xor_bidders;
}

abbrev pub unsearched_file : PlainFile → PlainFile
unsearched_file f = file_from (unsearched_auction (auction_from f))

-- the layout of the unsearched auction; alike files share it (law)
abbrev pub unsearched_text : PlainFile → List ℕ
unsearched_text f = layout (unsearched_file f)

-- Two auctions that are alike: they have the same goods, the same OR bids that no single bid replaces, and the same
-- canonical XOR bidders.
pub record AreAlikeAuctions (a b : PlainAuction) : Type 0 where
  pub goods : a.goods ≡ b.goods
  pub or_bids : unreplaced_bids a ≡ unreplaced_bids b
  pub xor_bidders : canonical_bidders a.goods a.xor_bidders ≡ canonical_bidders b.goods b.xor_bidders

-- two files of one unsearched auction, and so of the same auction (law)
abbrev pub AreAlike : PlainFile → PlainFile → Type 0
AreAlike f g = AreAlikeAuctions (auction_from f) (auction_from g)
