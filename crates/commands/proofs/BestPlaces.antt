-- The place that `xor_value` answers is the least of a best atom: no atom before it is one, so the search for the first passes them.
use Rattle.commands.proofs.Common.{◌≡◌, ◌≢◌, ℕ, ◌<◌, Bool, true, false, ◌&&◌, ◌==◌, List, [], length, get_or, Option, Some, None, refl, arith, All, IsNone}
use Rattle.commands.proofs.Common.{position_or_len, eqb-true, and_from, and_left, eq-eqb, lt-ltb, le-ltb, position_or_len_is, is_inside, Atom, xor_value}
use Rattle.commands.proofs.Common.{IsFirstBest, best_place, IfSome}

-- whether the atom is inside the bundle and its price is the value
abbrev is_best : ℕ → List ℕ → Atom (List ℕ) → Bool
is_best value bundle a = is_inside a.bundle bundle && (a.price == value)

not_best : (value : ℕ) (bundle : List ℕ) (a : Atom (List ℕ)) → (is_inside a.bundle bundle ≡ true → a.price ≢ value) → is_best value bundle a ≡ false
not_best value bundle a h = grind (arith, eqb-true)

at_first : (atoms : List (Atom (List ℕ))) (bundle : List ℕ) (i : ℕ) → IsFirstBest atoms bundle i → best_place atoms bundle ≡ Some i
at_first atoms bundle i h =
    let value = xor_value atoms bundle in
    let d : Atom (List ℕ) = record { bundle = []; price = 0 } in
    let within : i < length atoms = h.within in
    let best = h.best d in
    let here : is_best value bundle (get_or atoms i d) ≡ true = and_from _ _ best.0 (eq-eqb _ _ best.1) in
    let e : position_or_len (is_best value bundle) atoms ≡ i =
    position_or_len_is (is_best value bundle) atoms i d (omega arith) (λ k l. not_best value bundle (get_or atoms k d) (h.first k l d)) (λ l. here) in
    rw (e, lt-ltb i (length atoms) within)

nowhere : (atoms : List (Atom (List ℕ))) (bundle : List ℕ) → All (λ a. is_inside a.bundle bundle ≡ false) atoms → best_place atoms bundle ≡ None
nowhere atoms bundle none =
    let value = xor_value atoms bundle in
    let d : Atom (List ℕ) = record { bundle = []; price = 0 } in
    let e : position_or_len (is_best value bundle) atoms ≡ length atoms =
    position_or_len_is (is_best value bundle) atoms (length atoms) d (omega arith) (λ k l. and_left _ _ (none k d l)) (λ l. absurd (omega arith)) in
    rw (e, le-ltb (length atoms) (length atoms) (omega arith))

pub place_of_best : (atoms : List (Atom (List ℕ))) (bundle : List ℕ) (place : Option ℕ) → IfSome place (λ i. IsFirstBest atoms bundle i)
    → (IsNone place → All (λ a. is_inside a.bundle bundle ≡ false) atoms) → best_place atoms bundle ≡ place
place_of_best atoms bundle (Some i) first none = at_first atoms bundle i first
place_of_best atoms bundle None first none = nowhere atoms bundle (none refl)

-- the place has a number if each atom has one
pub place_within : (atoms : List (Atom (List ℕ))) (bundle numbers : List ℕ) (place : Option ℕ) → IfSome place (λ i. IsFirstBest atoms bundle i)
    → length numbers ≡ length atoms → IfSome place (λ i. i < length numbers)
place_within atoms bundle numbers (Some i) first long = omega (arith, first.within, long)
place_within atoms bundle numbers None first long = tt
