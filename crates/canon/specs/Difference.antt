-- The first difference of two auctions. The number of goods comes first, then the OR values on the bundles in order,
-- and then the XOR bidders, each as its points, in order. Values are those of Nisan ("Bidding and allocation in
-- combinatorial auctions", 2000).
use Rattle.std.specs.Prelude.{ℕ, not, ◌==◌, if◌then◌else◌, Option, Some, None, List, ◌++◌}
use Rattle.std.specs.List.{find}
use Rattle.goods_set.specs.Bundles.{all_bundles}
use Rattle.valuation.specs.declared.atom.Atom.{Atom}
use Rattle.valuation.specs.Auctions.{PlainAuction}
use Rattle.valuation.specs.Orders.{bidder_cmp}
use Rattle.valuation.specs.Sorting.{sort_by, count_of}
use Rattle.valuation.specs.Values.{or_value}
use Rattle.prune.specs.Points.{is_or_point}
use Rattle.canon.specs.Canonical.{canonical_auction}
use Rattle.canon.specs.declared.verdict.Side.{Side}
use Rattle.canon.specs.declared.verdict.Side.TheVariants.{Exactly, Below}

-- none; or the numbers of goods; or a bundle with its OR values; or an XOR bidder with how often each auction has it
pub data Difference : Type 0 where
  NoDifference : Difference
  -- in the numbers of goods, left and right
  InGoods : ℕ → ℕ → Difference
  -- in the OR value on this bundle
  InOr : List ℕ → Side → Side → Difference
  -- in how often the auctions have this XOR bidder
  InXor : List (Atom (List ℕ)) → ℕ → ℕ → Difference

-- ---- the OR bidder

-- the first bundle on which the OR values differ
abbrev pub first_unequal_bundle : PlainAuction → PlainAuction → Option (List ℕ)
first_unequal_bundle a b = find (λ bundle. not (or_value a.or_atoms bundle == or_value b.or_atoms bundle))
    (all_bundles a.goods)

-- what is reported of the first auction: its value, if it has an OR point on the bundle, and else that it is below the
-- other's
abbrev pub side_of : PlainAuction → PlainAuction → List ℕ → Side
side_of a other bundle =
    if is_or_point a.goods a.or_atoms bundle then Exactly (or_value a.or_atoms bundle)
    else Below (or_value other.or_atoms bundle)

-- ---- the XOR bidders

-- how often the canonical auction has this bidder
abbrev pub copies_of : List (Atom (List ℕ)) → PlainAuction → ℕ
copies_of bidder a = count_of bidder_cmp bidder (canonical_auction a).xor_bidders

-- the canonical bidders of both auctions, in order
abbrev pub bidders_of_both : PlainAuction → PlainAuction → List (List (Atom (List ℕ)))
bidders_of_both a b = sort_by bidder_cmp ((canonical_auction a).xor_bidders ++ (canonical_auction b).xor_bidders)

-- the least XOR bidder that the canonical auctions do not have equally often
abbrev pub least_unequal_bidder : PlainAuction → PlainAuction → Option (List (Atom (List ℕ)))
least_unequal_bidder a b = find (λ bidder. not (copies_of bidder a == copies_of bidder b)) (bidders_of_both a b)

-- ---- both

abbrev pub xor_difference : PlainAuction → PlainAuction → Option (List (Atom (List ℕ))) → Difference
xor_difference a b None = NoDifference
xor_difference a b (Some bidder) = InXor bidder (copies_of bidder a) (copies_of bidder b)

abbrev pub or_difference : PlainAuction → PlainAuction → Option (List ℕ) → Difference
or_difference a b None = xor_difference a b (least_unequal_bidder a b)
or_difference a b (Some bundle) = InOr bundle (side_of a b bundle) (side_of b a bundle)

-- the first difference: in goods, else in OR values, else in XOR bidders
abbrev pub first_difference : PlainAuction → PlainAuction → Difference
first_difference a b =
    if a.goods == b.goods then or_difference a b (first_unequal_bundle a b) else InGoods a.goods b.goods

-- the difference with left and right exchanged
abbrev pub exchanged : Difference → Difference
exchanged NoDifference = NoDifference
exchanged (InGoods left right) = InGoods right left
exchanged (InOr bundle left right) = InOr bundle right left
exchanged (InXor bidder left right) = InXor bidder right left
