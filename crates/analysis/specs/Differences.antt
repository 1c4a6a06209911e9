-- All differences of two canonical auctions.
use Rattle.std.specs.Prelude.{◌≡◌, ◌==◌, ℕ, Bool, ◌&&◌, if◌then◌else◌, Option, Some, None, is_none}
use Rattle.std.specs.Prelude.{List, [], ◌∷◌, length}
use Rattle.valuation.specs.Auctions.{PlainAuction}
use Rattle.canon.specs.Difference as canon
use Rattle.canon.specs.Difference.{Difference}
use Rattle.canon.specs.PriceChanges.{PlainChange, ArePriceChanges}
use Rattle.analysis.specs.BidderChanges.{PlainBidderChange, AreBidderChanges}

-- the numbers of goods, if they differ, and the changes of OR bids and of XOR bidders
pub record PlainDifferences : Type 0 where
  -- the numbers of goods, left and right, if they differ
  pub goods : Option (ℕ × ℕ)
  -- the bundles of the OR bidders
  pub bundles : List PlainChange
  -- the XOR bidders
  pub bidders : List PlainBidderChange

abbrev pub no_differences : PlainDifferences
no_differences = record { goods = None; bundles = []; bidders = [] }

-- whether there is no difference
abbrev pub is_none_at_all : PlainDifferences → Bool
is_none_at_all d = is_none d.goods && length d.bundles == 0 && length d.bidders == 0

-- two numbers of goods, if they differ
abbrev pub goods_change : ℕ → ℕ → Option (ℕ × ℕ)
goods_change left right = if left == right then None else Some (left, right)

-- all differences of two canonical auctions
pub record AreAllDifferences (a b : PlainAuction) (d : PlainDifferences) : Type 0 where
  pub goods : d.goods ≡ goods_change a.goods b.goods
  pub bundles : ArePriceChanges a.or_atoms b.or_atoms d.bundles
  pub bidders : AreBidderChanges a.xor_bidders b.xor_bidders d.bidders

-- ---- beside the first difference

-- the first change is on the bundle
abbrev pub BeginsOn : List ℕ → List PlainChange → Type 0
BeginsOn bundle [] = ⊥
BeginsOn bundle (c ∷ rest) = c.bundle ≡ bundle

-- there is a change
abbrev pub IsSomeChange : List PlainBidderChange → Type 0
IsSomeChange [] = ⊥
IsSomeChange (c ∷ rest) = Unit {0}

-- all differences begin with the kind of the first difference, and with its goods or bundle
abbrev pub BeginsWith : Difference → PlainDifferences → Type 0
BeginsWith canon.NoDifference d = d ≡ no_differences
BeginsWith (canon.InGoods left right) d = d.goods ≡ Some (left, right)
BeginsWith (canon.InOr bundle left right) d = (d.goods ≡ None) × BeginsOn bundle d.bundles
BeginsWith (canon.InXor bidder left right) d = (d.goods ≡ None) × (d.bundles ≡ []) × IsSomeChange d.bidders

-- ---- exchanging the auctions

-- numbers of goods with left and right exchanged
abbrev pub exchanged_goods : Option (ℕ × ℕ) → Option (ℕ × ℕ)
exchanged_goods None = None
exchanged_goods (Some numbers) = Some (numbers.1, numbers.0)

-- a bundle's prices with left and right exchanged
abbrev pub exchanged_change : PlainChange → PlainChange
exchanged_change c = record { bundle = c.bundle; left = c.right; right = c.left }
