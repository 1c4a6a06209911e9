-- The bundles on which two lists of bids differ. In each list a bundle has one bid at most.
use Rattle.std.specs.Prelude.{◌≡◌, ◌≢◌, ℕ, Option, Some, None, List, [], ◌∷◌, if◌then◌else◌, map, All, AllPairs}
use Rattle.std.specs.Prelude.{Contains}
use Rattle.std.specs.Ordering.{is_eq}
use Rattle.std.specs.declared.cmp.Ordering.TheVariants.{Less}
use Rattle.goods_set.specs.Orders.{bundle_cmp}
use Rattle.valuation.specs.declared.atom.Atom.{Atom}
use Rattle.canon.specs.declared.comparing.price_walk.PriceChange.{PriceChange}

-- a bundle, and the price on it on the left and on the right, if there is a bid
pub record PlainChange : Type 0 where
  pub bundle : List ℕ
  pub left : Option ℕ
  pub right : Option ℕ

-- a change of the code as a value
abbrev pub plain_change : PriceChange → PlainChange
plain_change c = record { bundle = c.goods.now; left = c.left; right = c.right }

-- the price on a bundle, if it has a bid
abbrev pub price_on : List (Atom (List ℕ)) → List ℕ → Option ℕ
price_on [] bundle = None
price_on (a ∷ rest) bundle = if is_eq (bundle_cmp a.bundle bundle) then Some a.price else price_on rest bundle

-- both prices are those of the lists, and they differ
pub record IsPriceChange (left right : List (Atom (List ℕ))) (c : PlainChange) : Type 0 where
  pub on_left : c.left ≡ price_on left c.bundle
  pub on_right : c.right ≡ price_on right c.bundle
  pub differ : c.left ≢ c.right

-- exactly the bundles with different prices, in order, each with both
pub record ArePriceChanges (left right : List (Atom (List ℕ))) (changes : List PlainChange) : Type 0 where
  pub in_order : AllPairs (λ c d. bundle_cmp c.bundle d.bundle ≡ Less) changes
  pub each : All (IsPriceChange left right) changes
  pub all : (bundle : List ℕ) → price_on left bundle ≢ price_on right bundle
      → Contains (map (λ c. c.bundle) changes) bundle
