-- What holds of the atoms of an auction holds of its points: they are atoms over its goods, and have the tables of all atoms.
use Rattle.canon.proofs.Common.{◌≡◌, ℕ, List, All, Contains, All-contains, All-weaker, Atom, IsAtom, PlainAuction, or_table, xor_table, xor_points, or_points}
use Rattle.canon.proofs.Common.{just_bundles, or_points_are_atoms, or_points_again, xor_points_are_atoms, xor_points_again, on_bundles, same_xor_points}
use Rattle.canon.proofs.Common.{same_or_points}

-- the atoms of each bidder are atoms over the goods
pub record HasAtoms (a : PlainAuction) : Type 0 where
  pub or_atoms : All (IsAtom a.goods) a.or_atoms
  pub xor_atoms : All (All (IsAtom a.goods)) a.xor_bidders

-- points are atoms over the goods, with the table of all atoms
pub or_points_atoms : (goods : ℕ) (atoms : List (Atom (List ℕ))) → All (IsAtom goods) atoms → All (IsAtom goods) (or_points goods atoms)
or_points_atoms goods atoms h =
    All-weaker (Contains atoms) (IsAtom goods) (λ a c. All-contains (IsAtom goods) atoms a h c) (or_points goods atoms)
    (or_points_are_atoms goods atoms (on_bundles goods atoms h))

pub xor_points_atoms : (goods : ℕ) (atoms : List (Atom (List ℕ))) → All (IsAtom goods) atoms → All (IsAtom goods) (xor_points goods atoms)
xor_points_atoms goods atoms h =
    All-weaker (Contains atoms) (IsAtom goods) (λ a c. All-contains (IsAtom goods) atoms a h c) (xor_points goods atoms)
    (xor_points_are_atoms goods atoms (just_bundles goods atoms (on_bundles goods atoms h)))

pub or_points_table : (goods : ℕ) (atoms : List (Atom (List ℕ))) → All (IsAtom goods) atoms → or_table (or_points goods atoms) goods ≡ or_table atoms goods
or_points_table goods atoms h =
    let on = on_bundles goods atoms h in
    (same_or_points goods (or_points goods atoms) atoms (on_bundles goods (or_points goods atoms) (or_points_atoms goods atoms h)) on).1
    (or_points_again goods atoms on)

pub xor_points_table : (goods : ℕ) (atoms : List (Atom (List ℕ))) → All (IsAtom goods) atoms → xor_table (xor_points goods atoms) goods ≡ xor_table atoms goods
xor_points_table goods atoms h =
    let on = on_bundles goods atoms h in
    (same_xor_points goods (xor_points goods atoms) atoms (on_bundles goods (xor_points goods atoms) (xor_points_atoms goods atoms h)) on).1
    (xor_points_again goods atoms (just_bundles goods atoms on))
