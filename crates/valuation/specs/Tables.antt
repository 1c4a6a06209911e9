-- The table of a bidder's values. It is over all bundles, in their order. The tables have 2^G entries, and no code
-- builds them.
use Rattle.std.specs.Prelude.{ℕ, Bool, not, ◌==◌, map, List}
use Rattle.std.specs.List.{list_any}
use Rattle.valuation.specs.declared.atom.Atom.{Atom}
use Rattle.valuation.specs.Values.{xor_value, or_value}
use Rattle.goods_set.specs.Bundles.{all_bundles}

-- the OR values on all bundles over G goods, in order
abbrev pub or_table : List (Atom (List ℕ)) → ℕ → List ℕ
or_table atoms G = map (or_value atoms) (all_bundles G)

-- the XOR values on all bundles over G goods, in order
abbrev pub xor_table : List (Atom (List ℕ)) → ℕ → List ℕ
xor_table atoms G = map (xor_value atoms) (all_bundles G)

-- whether a value of a table is above 0
abbrev pub is_nonzero : List ℕ → Bool
is_nonzero table = list_any (λ value. not (value == 0)) table
