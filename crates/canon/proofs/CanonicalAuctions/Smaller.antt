-- The canonical auction has no more atoms and no more bidders than the auction, so it is an auction too. Points are atoms on
-- different bundles, so each takes an atom of its own.
use Rattle.canon.proofs.Common.{◌≡◌, ℕ, ◌+◌, ◌≤◌, ⊎_elim, List, [], ◌∷◌, length, refl, sym, subst, arith, rules, All, Contains, sum_by, remove, cases_Bool}
use Rattle.canon.proofs.Common.{All-head, All-tail, All-contains, IsPermutation-remove, Contains-permutation, length_permutation, sum_by-cons, Atom}
use Rattle.canon.proofs.Common.{PlainAuction, IsAtom, IsAuction, Contains-cons_cases, AllPairs-head, AllPairs-tail, bidder_cmp, sort_by, sum_by-sort_by}
use Rattle.canon.proofs.Common.{IsBefore, IsInOrder, before_itself, All-from_Contains, Contains-tail, just_bundles, or_points_are_atoms, xor_points_are_atoms}
use Rattle.canon.proofs.Common.{on_bundles, points_where-in_order, or_points, xor_points, canonical_auction, points_of_bidders, unsearched_auction}
use Rattle.canon.proofs.Common.{common_steps}
use Rattle.canon.proofs.CanonicalAuctions.Atoms.{HasAtoms, xor_points_atoms}
use Rattle.canon.proofs.CanonicalAuctions.Counting.{points_more, points_without}
use Rattle.canon.proofs.CanonicalAuctions.Sames.{HasAtoms-auction, HasAtoms-canonical}

-- atoms in order, each in a list, are no more than the list has
no_more : (points atoms : List (Atom (List ℕ))) → IsInOrder points → All (Contains atoms) points → length points ≤ length atoms
no_more [] atoms s h = omega arith
no_more (x ∷ rest) atoms s h =
    let c = All-head (Contains atoms) x rest h in
    let p = IsPermutation-remove atoms c.0 x c.1 (sym c.2) in
    let later = no_more rest (remove atoms c.0) (AllPairs-tail IsBefore x rest s) (All-from_Contains (Contains (remove atoms c.0)) rest (λ y d. ⊎_elim
    (λ (e : x ≡ y). absurd (before_itself y.bundle
    (subst (λ (z : Atom (List ℕ)). IsBefore z y) e (All-contains (IsBefore x) rest y (AllPairs-head IsBefore x rest s) d))))
    (λ (k : Contains (remove atoms c.0) y). k) (Contains-cons_cases x (remove atoms c.0) y
    (Contains-permutation atoms (x ∷ remove atoms c.0) y p (All-contains (Contains atoms) (x ∷ rest) y h (Contains-tail x rest y d)))))) in
    search (rules, length_permutation)

pub length-or_points : (goods : ℕ) (atoms : List (Atom (List ℕ))) → All (IsAtom goods) atoms → length (or_points goods atoms) ≤ length atoms
length-or_points goods atoms h = search (rules, no_more, points_where-in_order, or_points_are_atoms, on_bundles)

pub length-xor_points : (goods : ℕ) (atoms : List (Atom (List ℕ))) → All (IsAtom goods) atoms → length (xor_points goods atoms) ≤ length atoms
length-xor_points goods atoms h = search (rules, no_more, points_where-in_order, xor_points_are_atoms, just_bundles, on_bundles)

-- so many in all, by what each counts
no_more_bidders : (goods : ℕ) (f : List (Atom (List ℕ)) → ℕ) → ((b : List (Atom (List ℕ))) → All (IsAtom goods) b → f (xor_points goods b) ≤ f b)
    → (bidders : List (List (Atom (List ℕ)))) → All (All (IsAtom goods)) bidders → sum_by f (points_of_bidders goods bidders) ≤ sum_by f bidders
no_more_bidders goods f less [] h = omega arith
no_more_bidders goods f less (b ∷ bs) h =
    let again = no_more_bidders goods f less bs (All-tail (All (IsAtom goods)) b bs h) in
    search (rules, All-tail, All, All-head, sum_by-cons, points_more, points_without, cases_Bool, again)

count_is_length : {X : Type 0} (xs : List X) → sum_by (λ x. 1) xs ≡ length xs
count_is_length [] = refl
count_is_length {X} (x ∷ xs) = let later = count_is_length xs in omega (arith, sum_by-cons (λ (y : X). 1) x xs)

-- the canonical auction has no more bidders
pub no_more_canonical_bidders : (a : PlainAuction) → HasAtoms a → length (canonical_auction a).xor_bidders ≤ length a.xor_bidders
no_more_canonical_bidders a h =
    let sorted = sort_by bidder_cmp (points_of_bidders a.goods a.xor_bidders) in
    let one : List (Atom (List ℕ)) → ℕ = λ b. 1 in
    let same : sum_by one sorted ≡ sum_by one (points_of_bidders a.goods a.xor_bidders) =
    sum_by-sort_by bidder_cmp one (points_of_bidders a.goods a.xor_bidders) in
    let fewer = no_more_bidders a.goods one (λ b k. omega arith) a.xor_bidders h.xor_atoms in
    let long : sum_by one sorted ≡ length sorted = count_is_length sorted in
    let all : sum_by one a.xor_bidders ≡ length a.xor_bidders = count_is_length a.xor_bidders in
    omega arith

-- no more atoms of them
no_more_xor_atoms : (a : PlainAuction) → HasAtoms a → sum_by length (canonical_auction a).xor_bidders ≤ sum_by length a.xor_bidders
no_more_xor_atoms a h = grind (arith, common_steps, sum_by-sort_by, no_more_bidders, length-xor_points)

-- and no more atoms
pub no_more_canonical_atoms : (a : PlainAuction) → HasAtoms a → length (canonical_auction a).or_atoms + sum_by length (canonical_auction a).xor_bidders
    ≤ length a.or_atoms + sum_by length a.xor_bidders
no_more_canonical_atoms a h = search (rules, no_more_xor_atoms, length-or_points)

pub IsAuction-canonical : (cap : ℕ) (a : PlainAuction) → IsAuction cap a → IsAuction cap (canonical_auction a)
IsAuction-canonical cap a h =
    let given = HasAtoms-auction cap a h in
    let atoms = HasAtoms-canonical a given in
    record {
      goods = h.goods;
      fits = h.fits;
      or_atoms = atoms.or_atoms;
      xor_atoms = atoms.xor_atoms;
      bidders = omega (arith, h.bidders, no_more_canonical_bidders a given);
      atoms = omega (arith, h.atoms, no_more_canonical_atoms a given);
    }

-- nor has the unsearched one
pub IsAuction-unsearched : (cap : ℕ) (a : PlainAuction) → IsAuction cap a → IsAuction cap (unsearched_auction a)
IsAuction-unsearched cap a h =
    let given = HasAtoms-auction cap a h in
    record {
      goods = h.goods;
      fits = h.fits;
      or_atoms = xor_points_atoms a.goods a.or_atoms h.or_atoms;
      xor_atoms = (HasAtoms-canonical a given).xor_atoms;
      bidders = omega (arith, h.bidders, no_more_canonical_bidders a given);
      atoms = omega (arith, h.atoms, no_more_xor_atoms a given, length-xor_points a.goods a.or_atoms h.or_atoms);
    }
