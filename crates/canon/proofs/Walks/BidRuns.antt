-- Bids that lie side by side in a list, and how many of the first ones have one dummy good.
use Rattle.canon.proofs.Common.{◌≡◌, ℕ, zero, suc, ◌+◌, ◌-◌, ◌<◌, ◌≤◌, true, false, eqb, cond, List, [], ◌∷◌, length, take, drop, Option, Some, refl, sym, ap}
use Rattle.canon.proofs.Common.{◌∙◌, arith, slice_get, slice_range, option_eq, length-take, drop-drop, drop_more, drop-take, get_or_from_slice_get}
use Rattle.canon.proofs.Common.{slice_get_within, PlainBid, leading}

get-drop : {X : Type 0} (n i : ℕ) (xs : List X) → slice_get (drop n xs) i ≡ slice_get xs (n + i)
get-drop zero i xs = let same : i ≡ 0 + i = omega arith in ap (slice_get xs) same
get-drop (suc n) i [] = refl
get-drop (suc n) i (x ∷ xs) = let same : suc (n + i) ≡ suc n + i = omega arith in get-drop n i xs ∙ ap (slice_get (x ∷ xs)) same

get-take : {X : Type 0} (n i : ℕ) (xs : List X) → i < n → slice_get (take n xs) i ≡ slice_get xs i
get-take zero i xs l = absurd (omega arith)
get-take (suc n) i [] l = refl
get-take (suc n) zero (x ∷ xs) l = refl
get-take (suc n) (suc i) (x ∷ xs) l = get-take n i xs (omega arith)

pub get_in_range : {X : Type 0} (xs : List X) (first end i : ℕ) → i < end - first → slice_get (slice_range xs first end) i ≡ slice_get xs (first + i)
get_in_range xs first end i l = get-take (end - first) i (drop first xs) l ∙ get-drop first i xs

pub range_length : {X : Type 0} (xs : List X) (first end : ℕ) → length (slice_range xs first end) ≤ end - first
range_length xs first end = omega (arith, length-take (end - first) (drop first xs))

pub rest_of_range : {X : Type 0} (xs : List X) (first end i : ℕ) → first + i ≤ end → slice_range xs (first + i) end ≡ drop i (slice_range xs first end)
rest_of_range {X} xs first end i l =
    let later = end - (first + i) in
    let size : i + later ≡ end - first = omega arith in
    ap (take later) (sym (drop-drop i first xs)) ∙ sym (drop-take i later (drop first xs)) ∙ ap (λ n. drop i (take n (drop first xs))) size

pub drop_at : (bids : List PlainBid) (i : ℕ) (b : PlainBid) → slice_get bids i ≡ Some b → drop i bids ≡ b ∷ drop (i + 1) bids
drop_at bids i b e = drop_more bids i b (slice_get_within bids i b e) ∙ ap (λ (x : PlainBid). x ∷ drop (i + 1) bids) (get_or_from_slice_get bids i b b e)

module _ (dummy : Option ℕ) (bids : List PlainBid) (i : ℕ) (b : PlainBid) (here : slice_get bids i ≡ Some b) where
  pub one_more_leads : option_eq eqb b.dummy dummy ≡ true → leading dummy (drop i bids) ≡ 1 + leading dummy (drop (i + 1) bids)
  one_more_leads same = ap (leading dummy) (drop_at bids i b here) ∙ ap (λ t. cond {A = ℕ} t (1 + leading dummy (drop (i + 1) bids)) 0) same

  pub none_leads : option_eq eqb b.dummy dummy ≡ false → leading dummy (drop i bids) ≡ 0
  none_leads differ = ap (leading dummy) (drop_at bids i b here) ∙ ap (λ t. cond {A = ℕ} t (1 + leading dummy (drop (i + 1) bids)) 0) differ
