-- The orders of atoms and of bidders.
use Rattle.std.specs.Prelude.{ℕ, List}
use Rattle.std.specs.Ordering.{nat_cmp, ordering_then}
use Rattle.std.specs.Cmp.Lexicographic.{slice_cmp}
use Rattle.std.specs.declared.cmp.Ordering.{Ordering}
use Rattle.valuation.specs.declared.atom.Atom.{Atom}
use Rattle.goods_set.specs.Orders.{bundle_cmp}

-- the order of atoms: by bundle, then price
abbrev pub atom_cmp : Atom (List ℕ) → Atom (List ℕ) → Ordering
atom_cmp a b = ordering_then (bundle_cmp a.bundle b.bundle) (nat_cmp a.price b.price)

-- the order of bidders: lexicographic by atoms
abbrev pub bidder_cmp : List (Atom (List ℕ)) → List (Atom (List ℕ)) → Ordering
bidder_cmp xs ys = slice_cmp atom_cmp xs ys
