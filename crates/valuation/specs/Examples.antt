-- Atoms for worked examples.
use Rattle.std.specs.Prelude.{ℕ, List}
use Rattle.valuation.specs.declared.atom.Atom.{Atom}

-- the atom with these goods and this price
abbrev pub atom : List ℕ → ℕ → Atom (List ℕ)
atom bundle price = record { bundle = bundle; price = price }
