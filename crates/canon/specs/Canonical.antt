-- The canonical auction, and the file of an auction. Of the OR bidder and of each XOR bidder the points stay, the bids
-- that the values alone determine; XOR bidders of value zero are dropped, and the others are in the order of their
-- lists of bids, equal ones beside one another.
use Rattle.std.specs.Prelude.{◌≡◌, ℕ, ◌+◌, List, [], ◌∷◌, ◌++◌, map, filter, length, Option, Some, None}
use Rattle.bid_file.specs.Files.{PlainBid, PlainFile}
use Rattle.cats_text.specs.Layout.{layout}
use Rattle.valuation.specs.declared.atom.Atom.{Atom}
use Rattle.valuation.specs.Auctions.{PlainAuction, auction_from}
use Rattle.valuation.specs.Orders.{bidder_cmp}
use Rattle.valuation.specs.Sorting.{sort_by}
use Rattle.valuation.specs.Tables.{xor_table, is_nonzero}
use Rattle.prune.specs.Points.{xor_points, or_points}

-- the bidders whose value is not 0 on every bundle
abbrev pub nonzero_bidders : ℕ → List (List (Atom (List ℕ))) → List (List (Atom (List ℕ)))
nonzero_bidders goods bidders = filter (λ bidder. is_nonzero (xor_table bidder goods)) bidders

-- their points
abbrev pub points_of_bidders : ℕ → List (List (Atom (List ℕ))) → List (List (Atom (List ℕ)))
points_of_bidders goods bidders = map (xor_points goods) (nonzero_bidders goods bidders)

-- and these in order
abbrev pub canonical_bidders : ℕ → List (List (Atom (List ℕ))) → List (List (Atom (List ℕ)))
canonical_bidders goods bidders = sort_by bidder_cmp (points_of_bidders goods bidders)

-- the OR points, and the XOR points of each XOR bidder that is not zero, in order
abbrev pub canonical_auction : PlainAuction → PlainAuction
canonical_auction a = record {
  goods = a.goods;
  or_atoms = or_points a.goods a.or_atoms;
  xor_bidders = canonical_bidders a.goods a.xor_bidders;
}

-- an auction that is its own canonical auction
abbrev pub IsCanonical : PlainAuction → Type 0
IsCanonical a = canonical_auction a ≡ a

-- ---- files

abbrev pub bid_from : Option ℕ → Atom (List ℕ) → PlainBid
bid_from dummy a = record { price = a.price; goods = a.bundle; dummy = dummy }

-- the bids of these bidders, with the dummy goods from d on
abbrev pub dummy_bids : ℕ → List (List (Atom (List ℕ))) → List PlainBid
dummy_bids d [] = []
dummy_bids d (bidder ∷ bidders) = map (bid_from (Some d)) bidder ++ dummy_bids (d + 1) bidders

-- the file of an auction: OR bids first, then XOR bidder k with dummy good k
abbrev pub file_from : PlainAuction → PlainFile
file_from a = record {
  goods = a.goods;
  dummy = length a.xor_bidders;
  bids = map (bid_from None) a.or_atoms ++ dummy_bids 0 a.xor_bidders;
}

-- the file of the canonical auction of a file
abbrev pub canonical_file : PlainFile → PlainFile
canonical_file f = file_from (canonical_auction (auction_from f))

-- a file that is its own canonical file
abbrev pub IsCanonicalFile : PlainFile → Type 0
IsCanonicalFile f = canonical_file f ≡ f

-- the layout of a file's canonical file
abbrev pub canonical_text : PlainFile → List ℕ
canonical_text f = layout (canonical_file f)
