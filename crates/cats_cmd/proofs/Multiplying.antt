-- A file whose prices are multiplied: each bundle is worth so many times as much, and each allocation brings so many times as much.
use Rattle.cats_cmd.proofs.Common.{◌≡◌, ℕ, zero, suc, ◌+◌, ◌≤◌, Bool, List, [], ◌∷◌, length, map, Option, refl, sym, ap, ap₂, ◌∙◌, arith, PlainFile, ⊎_elim}
use Rattle.cats_cmd.proofs.Common.{length-map}
use Rattle.std.proofs.lemmas.Grind.{common_steps}
use Rattle.std.proofs.lemmas.List.Sums.{sum_by-cons}
use Rattle.std.specs.Prelude.{◌*◌, ◌&&◌, max, is_none, filter, slice_index_or, None, true, false, if◌then◌else◌}
use Rattle.std.specs.List.{list_all}
use Rattle.std.proofs.lemmas.Bool.{cases_lt}
use Rattle.std.proofs.Math.Nat.{mul-le-mul_left}
use Rattle.bid_file.specs.Files.{PlainBid}
use Rattle.analysis.proofs.Common.{all_bundles, is_inside, without}
use Rattle.valuation.specs.Auctions.{atom_of, is_dummy, or_atoms_of, xor_atoms_of}
use Rattle.valuation.specs.Values.{or_value, xor_value}
use Rattle.valuation.specs.declared.atom.Atom.{Atom}
use Rattle.analysis.specs.Allocations.{allocations, can_all_win, can_both_win, greatest, greatest_revenue, revenue}
use Rattle.analysis.specs.Bids.{bid_at}
use Rattle.rounding.specs.Multiplied.{times_bid, times_file}

max_times : (n a b : ℕ) → max (n * a) (n * b) ≡ n * max a b
max_times n a b = ⊎_elim
    (λ l. let more : n * a ≤ n * b = mul-le-mul_left n (omega (arith, l)) in
    let is : max a b ≡ b = omega (arith, l) in omega (arith, more, ap (λ k. n * k) is))
    (λ l. let more : n * b ≤ n * a = mul-le-mul_left n l in
    let is : max a b ≡ a = omega (arith, l) in omega (arith, more, ap (λ k. n * k) is))
    (cases_lt a b)

-- ---- what is offered for a bundle

abbrev times_atom : ℕ → Atom (List ℕ) → Atom (List ℕ)
times_atom n a = record { bundle = a.bundle; price = n * a.price }

xor_times : (n : ℕ) (atoms : List (Atom (List ℕ))) (bundle : List ℕ) → xor_value (map (times_atom n) atoms) bundle ≡ n * xor_value atoms bundle
unfolding xor_value
xor_times n [] bundle = omega arith
xor_times n (a ∷ rest) bundle =
    ap₂ max (xor_times n rest bundle) (inside (is_inside a.bundle bundle))
    ∙ max_times n (xor_value rest bundle) (if is_inside a.bundle bundle then a.price else 0)
  where
    inside : (v : Bool) → (if v then n * a.price else 0) ≡ n * (if v then a.price else 0)
    inside true = refl
    inside false = omega arith

or_times : (n : ℕ) (atoms : List (Atom (List ℕ))) (bundle : List ℕ) → or_value (map (times_atom n) atoms) bundle ≡ n * or_value atoms bundle
unfolding or_value
or_times n [] bundle = omega arith
or_times n (a ∷ rest) bundle =
    ap₂ max (or_times n rest bundle)
    (ap (λ k. if is_inside a.bundle bundle then n * a.price + k else 0) (or_times n rest (without bundle a.bundle)) ∙ inside (is_inside a.bundle bundle))
    ∙ max_times n (or_value rest bundle) (if is_inside a.bundle bundle then a.price + or_value rest (without bundle a.bundle) else 0)
  where
    inside : (v : Bool) → (if v then n * a.price + n * or_value rest (without bundle a.bundle) else 0)
        ≡ n * (if v then a.price + or_value rest (without bundle a.bundle) else 0)
    inside true = omega arith
    inside false = omega arith

-- bids that are chosen by their dummy good
atoms_times : (n : ℕ) (p : Option ℕ → Bool) (bids : List PlainBid)
    → map atom_of (filter (λ b. p b.dummy) (map (times_bid n) bids)) ≡ map (times_atom n) (map atom_of (filter (λ b. p b.dummy) bids))
atoms_times n p [] = refl
atoms_times n p (b ∷ bs) = grind (arith, common_steps, (atoms_times n p bs))

pub or_multiplied : (n : ℕ) (f : PlainFile) (bundle : List ℕ) → or_value (or_atoms_of (times_file n f).bids) bundle ≡ n * or_value (or_atoms_of f.bids) bundle
or_multiplied n f bundle = ap (λ (atoms : List (Atom (List ℕ))). or_value atoms bundle) (atoms_times n (λ d. is_none d) f.bids)
    ∙ or_times n (or_atoms_of f.bids) bundle

pub xor_multiplied : (n : ℕ) (f : PlainFile) (d : ℕ) (bundle : List ℕ)
    → xor_value (xor_atoms_of (times_file n f).bids d) bundle ≡ n * xor_value (xor_atoms_of f.bids d) bundle
xor_multiplied n f d bundle = ap (λ (atoms : List (Atom (List ℕ))). xor_value atoms bundle) (atoms_times n (is_dummy d) f.bids)
    ∙ xor_times n (xor_atoms_of f.bids d) bundle

-- ---- what allocations bring

abbrev no_bid : PlainBid
no_bid = record { price = 0; goods = []; dummy = None }

at_times : (n : ℕ) (bids : List PlainBid) (i : ℕ) → slice_index_or (map (times_bid n) bids) i no_bid ≡ times_bid n (slice_index_or bids i no_bid)
at_times n [] i = let none : 0 ≡ n * 0 = omega arith in ap (λ k. record { price = k; goods = []; dummy = None }) none
at_times n (b ∷ bs) zero = refl
at_times n (b ∷ bs) (suc i) = at_times n bs i

pub revenue_multiplied : (n : ℕ) (f : PlainFile) (winners : List ℕ) → revenue (times_file n f) winners ≡ n * revenue f winners
revenue_multiplied n f [] = omega arith
revenue_multiplied n f (i ∷ rest) =
    sum_by-cons (λ j. (bid_at (times_file n f) j).price) i rest
    ∙ ap₂ (λ price others. price + others) (ap (λ (b : PlainBid). b.price) (at_times n f.bids i)) (revenue_multiplied n f rest)
    ∙ both (bid_at f i).price (revenue f rest) ∙ ap (λ k. n * k) (sym (sum_by-cons (λ j. (bid_at f j).price) i rest))
  where
    both : (a b : ℕ) → n * a + n * b ≡ n * (a + b)
    both a b = omega arith

both_times : (n : ℕ) (f : PlainFile) (i j : ℕ) → can_both_win (bid_at (times_file n f) i) (bid_at (times_file n f) j) ≡ can_both_win (bid_at f i) (bid_at f j)
both_times n f i j = ap₂ can_both_win (at_times n f.bids i) (at_times n f.bids j)

others_times : (n : ℕ) (f : PlainFile) (i : ℕ) (rest : List ℕ)
    → list_all (λ j. can_both_win (bid_at (times_file n f) i) (bid_at (times_file n f) j)) rest ≡ list_all (λ j. can_both_win (bid_at f i) (bid_at f j)) rest
others_times n f i [] = refl
others_times n f i (j ∷ rest) = ap₂ (λ u v. u && v) (both_times n f i j) (others_times n f i rest)

all_times : (n : ℕ) (f : PlainFile) (winners : List ℕ) → can_all_win (times_file n f) winners ≡ can_all_win f winners
all_times n f [] = refl
all_times n f (i ∷ rest) = ap₂ (λ u v. u && v) (others_times n f i rest) (all_times n f rest)

kept_times : (n : ℕ) (f : PlainFile) (bundles : List (List ℕ)) → filter (can_all_win (times_file n f)) bundles ≡ filter (can_all_win f) bundles
kept_times n f [] = refl
kept_times n f (ws ∷ rest) = grind (arith, common_steps, all_times, (kept_times n f rest))

allocations_times : (n : ℕ) (f : PlainFile) → allocations (times_file n f) ≡ allocations f
allocations_times n f = ap (λ k. filter (can_all_win (times_file n f)) (all_bundles k)) (length-map f.bids (times_bid n))
    ∙ kept_times n f (all_bundles (length f.bids))

greatest_times : (n : ℕ) (f : PlainFile) (all : List (List ℕ)) → greatest (map (revenue (times_file n f)) all) ≡ n * greatest (map (revenue f) all)
greatest_times n f [] = omega arith
greatest_times n f (ws ∷ rest) = ap₂ max (revenue_multiplied n f ws) (greatest_times n f rest) ∙ max_times n (revenue f ws) (greatest (map (revenue f) rest))

pub greatest_multiplied : (n : ℕ) (f : PlainFile) → greatest_revenue (times_file n f) ≡ n * greatest_revenue f
greatest_multiplied n f = ap (λ (all : List (List ℕ)). greatest (map (revenue (times_file n f)) all)) (allocations_times n f)
    ∙ greatest_times n f (allocations f)
