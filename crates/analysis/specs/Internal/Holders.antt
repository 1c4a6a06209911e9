-- The right bidders in excess, by the bundles of their bids.
use Rattle.std.specs.Prelude.{◌≡◌, ℕ, ◌<◌, Bool, false, List, [], get_or, Option, Some, None}
use Rattle.std.specs.Borrow.{Bor}
use Rattle.std.specs.BTreeMap.{BTreeMap, get_by}
use Rattle.std.specs.Cmp.Lexicographic.{slice_cmp}
use Rattle.std.specs.Ordering.{is_eq, nat_cmp}
use Rattle.goods_set.specs.Orders.{bundle_cmp}
use Rattle.valuation.specs.declared.atom.Atom.{Atom}
use Rattle.analysis.specs.declared.differences.holders.Holders.{Holders}

-- whether the bid is on the bundle
abbrev pub is_on : List ℕ → Atom (List ℕ) → Bool
is_on bundle a = is_eq (bundle_cmp a.bundle bundle)

-- whether the bidder of this index waits
abbrev pub waits_at : List Bool → ℕ → Bool
waits_at waits index = get_or waits index false

-- what a map has for a bundle
abbrev pub found_at : BTreeMap (Bor (List ℕ)) Holders → List ℕ → Option Holders
found_at holders bundle = get_by (λ key. slice_cmp nat_cmp bundle key.now) holders

abbrev pub indices_in : Option Holders → List ℕ
indices_in None = []
indices_in (Some holders) = holders.indices.items

abbrev pub passed_in : Option Holders → ℕ
passed_in None = 0
passed_in (Some holders) = holders.passed

-- the bidders that have a bid on the bundle
abbrev pub holders_at : BTreeMap (Bor (List ℕ)) Holders → List ℕ → List ℕ
holders_at holders bundle = indices_in (found_at holders bundle)

-- so many of the first ones wait no more
abbrev pub ArePassed : List Bool → Option Holders → Type 0
ArePassed waits found = (k : ℕ) → k < passed_in found → waits_at waits (get_or (indices_in found) k 0) ≡ false
