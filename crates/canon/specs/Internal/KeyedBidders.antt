-- What contracts see of bidders with numbers and keys.
use Rattle.std.specs.Prelude.{ℕ, ◌+◌, List, [], ◌∷◌, map, filter}
use Rattle.std.specs.Ordering.{nat_cmp, ordering_then}
use Rattle.std.specs.declared.cmp.Ordering.{Ordering}
use Rattle.goods_set.specs.declared.set.GoodsSet.{Ghosts}
use Rattle.valuation.specs.declared.atom.Atom.{Atom}
use Rattle.valuation.specs.Auctions.{PlainAuction}
use Rattle.valuation.specs.Orders.{bidder_cmp}
use Rattle.valuation.specs.Sorting.{sort_by}
use Rattle.valuation.specs.Tables.{xor_table, is_nonzero}
use Rattle.valuation.specs.Values.{atoms_of}
use Rattle.prune.specs.Points.{xor_points}
use Rattle.canon.specs.declared.normal.keyed_bidder.KeyedBidder.{KeyedBidder}

-- a bidder with its number
pub record NumberedBidder : Type 0 where
  pub number : ℕ
  pub atoms : List (Atom (List ℕ))

-- what is seen of one with its key
abbrev pub keyed_bidder : {S : Type 0} {g : Ghosts S} → KeyedBidder S g → NumberedBidder
keyed_bidder {g = g} b = record { number = b.dummy; atoms = atoms_of g.goods b.atoms.items }

abbrev pub keyed_bidders : {S : Type 0} {g : Ghosts S} → List (KeyedBidder S g) → List NumberedBidder
keyed_bidders bidders = map keyed_bidder bidders

-- bidders, numbered from n on
abbrev pub numbered_from : ℕ → List (List (Atom (List ℕ))) → List NumberedBidder
numbered_from n [] = []
numbered_from n (bidder ∷ bidders) = record { number = n; atoms = bidder } ∷ numbered_from (n + 1) bidders

-- a bidder's points, with its number
abbrev pub points_of_numbered : ℕ → NumberedBidder → NumberedBidder
points_of_numbered goods b = record { number = b.number; atoms = xor_points goods b.atoms }

-- the points of the bidders whose value is not 0 on every bundle, with their numbers
abbrev pub numbered_points : ℕ → List (List (Atom (List ℕ))) → List NumberedBidder
numbered_points goods bidders = map (points_of_numbered goods)
    (filter (λ b. is_nonzero (xor_table b.atoms goods)) (numbered_from 0 bidders))

-- by their atoms, and then by their numbers
abbrev pub numbered_cmp : NumberedBidder → NumberedBidder → Ordering
numbered_cmp a b = ordering_then (bidder_cmp a.atoms b.atoms) (nat_cmp a.number b.number)

-- the numbers of the bidders that are in the canonical auction, in its order
abbrev pub kept_numbers : PlainAuction → List ℕ
kept_numbers a = map (λ b. b.number) (sort_by numbered_cmp (numbered_points a.goods a.xor_bidders))
