-- The walk of two lists of bids, bundle by bundle.
use Rattle.std.specs.Prelude.{◌≡◌, ℕ, ◌+◌, ◌<◌, ◌≤◌, if◌then◌else◌, Option, Some, None, is_some, eqb}
use Rattle.std.specs.Prelude.{List, [], ◌∷◌, length, map, drop}
use Rattle.std.specs.Option.{option_eq}
use Rattle.std.specs.Ordering.{match_ordering}
use Rattle.goods_set.specs.Orders.{bundle_cmp}
use Rattle.valuation.specs.declared.atom.Atom.{Atom}
use Rattle.canon.specs.PriceChanges.{PlainChange}
use Rattle.canon.specs.declared.verdict.Side.{Side}
use Rattle.canon.specs.declared.verdict.Side.TheVariants.{Exactly, Below}

-- a bundle with a bid on the left alone, on the right alone, and on both
abbrev pub only_left : Atom (List ℕ) → PlainChange
only_left a = record { bundle = a.bundle; left = Some a.price; right = None }

abbrev pub only_right : Atom (List ℕ) → PlainChange
only_right b = record { bundle = b.bundle; left = None; right = Some b.price }

abbrev pub on_both : Atom (List ℕ) → Atom (List ℕ) → PlainChange
on_both a b = record { bundle = a.bundle; left = Some a.price; right = Some b.price }

-- the bundle, if its prices differ, and then these
abbrev pub if_differs : PlainChange → List PlainChange → List PlainChange
if_differs c later = if option_eq eqb c.left c.right then later else c ∷ later

-- the changes with a further bid on the left, by those of the rest with what is on the right
abbrev pub changes_with : Atom (List ℕ) → (List (Atom (List ℕ)) → List PlainChange) → List (Atom (List ℕ))
    → List PlainChange
changes_with a rest [] = only_left a ∷ rest []
changes_with a rest (b ∷ others) = match_ordering (bundle_cmp a.bundle b.bundle) (only_left a ∷ rest (b ∷ others))
    (if_differs (on_both a b) (rest others)) (only_right b ∷ changes_with a rest others)

-- the bundles on which two lists differ, which are in order
abbrev pub changes_of : List (Atom (List ℕ)) → List (Atom (List ℕ)) → List PlainChange
changes_of [] right = map only_right right
changes_of (a ∷ rest) right = changes_with a (changes_of rest) right

-- how many bids of a list are on a bundle with this price
abbrev pub passed : Option ℕ → ℕ
passed price = if is_some price then 1 else 0

-- a bundle of one of the lists, and the changes by those behind it
pub record IsFirstBundle (left right : List (Atom (List ℕ))) (c : PlainChange) : Type 0 where
  pub some : 0 < passed c.left + passed c.right
  pub left_passed : passed c.left ≤ length left
  pub right_passed : passed c.right ≤ length right
  pub step : changes_of left right
      ≡ if_differs c (changes_of (drop (passed c.left) left) (drop (passed c.right) right))

-- what is reported of a value on a bundle that has these prices
abbrev pub side_at : Option ℕ → Option ℕ → Side
side_at (Some own) other = Exactly own
side_at None (Some other) = Below other
side_at None None = Below 0
