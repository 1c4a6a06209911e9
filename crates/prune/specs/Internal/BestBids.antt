-- The best bid of each bundle. A pruning decides on these.
use Rattle.std.specs.Prelude.{◌≡◌, ℕ, ◌<◌, ◌≤◌, List, All, Contains}
use Rattle.std.specs.Ordering.{nat_cmp, ordering_then}
use Rattle.std.specs.declared.cmp.Ordering.{Ordering}
use Rattle.valuation.specs.declared.atom.Atom.{Atom}
use Rattle.goods_set.specs.Orders.{bundle_cmp}
use Rattle.prune.specs.InOrder.{IsInOrder}

-- by bundle, and on one bundle by falling price
abbrev pub bid_cmp : Atom (List ℕ) → Atom (List ℕ) → Ordering
bid_cmp a b = ordering_then (bundle_cmp a.bundle b.bundle) (nat_cmp b.price a.price)

-- in order, the bids of a greatest price above 0, one on each bundle that has such a bid
pub record AreBestBids (bids best : List (Atom (List ℕ))) : Type 0 where
  pub in_order : IsInOrder best
  pub among : All (Contains bids) best
  pub positive : All (λ b. 0 < b.price) best
  pub dominates : All (λ a. 0 < a.price → (b : Atom (List ℕ)) × Contains best b × (b.bundle ≡ a.bundle)
      × (a.price ≤ b.price)) bids
