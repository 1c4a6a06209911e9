-- An atom on a nonempty bundle.
use Rattle.std.specs.Prelude.{ℕ, ◌<◌, List, length}
use Rattle.valuation.specs.declared.atom.Atom.{Atom}
use Rattle.goods_set.specs.Bundles.{IsBundle}

-- an atom on a nonempty bundle over so many goods
pub record IsOnBundle (goods : ℕ) (a : Atom (List ℕ)) : Type 0 where
  pub nonempty : 0 < length a.bundle
  pub bundle : IsBundle goods a.bundle
