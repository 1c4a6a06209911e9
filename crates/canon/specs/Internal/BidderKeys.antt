-- The sort key of a bidder. It puts most bidders in order.
use Rattle.std.specs.Prelude.{ℕ, List, [], ◌∷◌}
use Rattle.goods_set.specs.SortKeys.{sort_key_of}
use Rattle.valuation.specs.declared.atom.Atom.{Atom}

-- that of the first atom's bundle, and 0 where there is no atom
abbrev pub bidder_key : List (Atom (List ℕ)) → ℕ
bidder_key [] = 0
bidder_key (a ∷ rest) = sort_key_of a.bundle
