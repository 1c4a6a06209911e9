-- The limits of an auction hold in one way at most, so that a struct may keep them.
use Rattle.std.specs.Prelude.{ℕ, List, All}
use Rattle.std.specs.Coded.{le_prop}
use Rattle.valuation.specs.declared.atom.Atom.{Atom}
use Rattle.goods_set.specs.Lemmas.BundleFacts.{IsBundle-prop}
use Rattle.valuation.specs.Auctions.{IsAtom, PlainAuction, IsAuction}

-- ---- these facts have one proof at most, as a fact that a struct keeps has to

pub IsAtom-prop : (goods : ℕ) (a : Atom (List ℕ)) → IsProp (IsAtom goods a)
IsAtom-prop goods a = hlevel (le_prop, IsBundle-prop goods a.bundle)

IsAtoms-prop : (goods : ℕ) (atoms : List (Atom (List ℕ))) → IsProp (All (IsAtom goods) atoms)
IsAtoms-prop goods atoms = hlevel (IsAtom-prop goods)

pub IsAuction-prop : (cap : ℕ) (a : PlainAuction) → IsProp (IsAuction cap a)
IsAuction-prop cap a = hlevel (le_prop, IsAtoms-prop a.goods)
