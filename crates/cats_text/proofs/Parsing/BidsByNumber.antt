-- The arrivals of the bids by number. The idea: the bids stay in the order in which they came, and an arrival is a number
-- in that order, which one more bid behind the others does not change.
use Rattle.cats_text.proofs.Common.{rules, ◌≡◌, ℕ, zero, suc, ◌+◌, ◌-◌, ◌<◌, ◌≤◌, List, [], ◌∷◌, ◌++◌, length, replicate, set, take, get_or, subst, add-one}
use Rattle.cats_text.proofs.Common.{Option, Some, None, map, append-nil, refl, sym, ap, ap₂, ◌∙◌}
use Rattle.cats_text.proofs.Common.{arith, append_assoc, length-append, length-replicate, replicate-append-replicate, map-set, map-append, length-map}
use Rattle.cats_text.proofs.Common.{take_more, take_all, slice_get-get_or, filter_map-append, slice_get}
use Rattle.cats_text.proofs.Common.{option_to_list, PlainBid, number_alone, slot_at, arrived, AreWithin, IsPadded, arrivals_to, put_slot, filled}
use Rattle.cats_text.proofs.Common.{common_steps}

some_same : (x y : ℕ) → Some x ≡ Some y → x ≡ y
some_same x y e = cc

-- ---- bids that came in the order of their numbers

abbrev all_of : List PlainBid → List (Option PlainBid)
all_of came = map (λ b. Some b) came

-- ---- bids with their arrivals

pub within_at : (n : ℕ) (arrivals : List ℕ) (i p : ℕ) → AreWithin n arrivals → slice_get arrivals i ≡ Some p → p ≤ n
within_at n [] i p all e = cc
within_at n (q ∷ arrivals) zero p all e = subst (λ (k : ℕ). k ≤ n) (some_same q p e) all.0
within_at n (q ∷ arrivals) (suc i) p all e = within_at n arrivals i p all.1 e

-- ---- one more bid behind the others

slot_stays : (came : List PlainBid) (b : PlainBid) (p : ℕ) → p ≤ length came → slot_at (came ++ b ∷ []) p ≡ slot_at came p
slot_stays [] b (suc i) l = absurd (let no : suc i ≤ 0 = l in omega arith)
slot_stays (c ∷ came) b (suc (suc i)) l = slot_stays came b (suc i) (omega arith)
slot_stays _ b _ l = refl

arrived_stay : (came : List PlainBid) (b : PlainBid) (arrivals : List ℕ) → AreWithin (length came) arrivals
    → arrived (came ++ b ∷ []) arrivals ≡ arrived came arrivals
arrived_stay came b [] all = refl
arrived_stay came b (p ∷ arrivals) all = grind (arith, common_steps, slot_stays, (arrived_stay came b arrivals all.1))

slot_last : (came : List PlainBid) (b : PlainBid) → slot_at (came ++ b ∷ []) (suc (length came)) ≡ Some b
slot_last [] b = refl
slot_last (c ∷ came) b = slot_last came b

length-padded : (old padded : List ℕ) (n : ℕ) → (p : IsPadded old padded n) → length padded ≡ length old + p.count
length-padded old padded n p = ap length p.is ∙ length-append old (replicate p.count 0) ∙ ap (λ k. length old + k) (length-replicate p.count 0)

pub padded_more : (old padded next : List ℕ) (n : ℕ) → IsPadded old padded n → length padded ≤ n → next ≡ padded ++ 0 ∷ [] → IsPadded old next n
padded_more old padded next n p space e = record {
  count = p.count + 1;
  is = e ∙ ap (λ ys. ys ++ 0 ∷ []) p.is ∙ append_assoc old (replicate p.count 0) (0 ∷ []) ∙ ap (λ ys. old ++ ys) (replicate-append-replicate p.count 1 0);
  few = let len = length-padded old padded n p in let few = p.few in omega arith;
}

arrived_zeros : (came : List PlainBid) (k : ℕ) → arrived came (replicate k 0) ≡ replicate k None
arrived_zeros came zero = refl
arrived_zeros came (suc k) = ap (λ ys. None ∷ ys) (arrived_zeros came k)

-- a bid put with its arrival
pub put_arrived : (came next : List PlainBid) (b : PlainBid) (old padded : List ℕ) (n k : ℕ) → AreWithin (length came) padded → next ≡ came ++ b ∷ []
    → k ≡ length next → IsPadded old padded n → n < length padded → arrived next (set padded n k) ≡ put_slot (arrived came old) n b
put_arrived came next b old padded n k all e at p there =
    let len = length-padded old padded n p in
    let few = p.few in
    let same : length (arrived came old) ≡ length old = length-map old (slot_at came) in
    let zeros : p.count ≡ n + 1 - length (arrived came old) = omega arith in
    let last : slot_at next k ≡ Some b = ap₂ slot_at e (at ∙ ap length e ∙ length-append came (b ∷ []) ∙ add-one (length came)) ∙ slot_last came b in
    map-set (slot_at next) padded n k ∙ ap₂ (λ (xs : List (Option PlainBid)) (x : Option PlainBid). set xs n x)
    (ap (λ (c : List PlainBid). arrived c padded) e ∙ arrived_stay came b padded all
    ∙ ap (arrived came) p.is ∙ map-append (slot_at came) old (replicate p.count 0) ∙ ap (λ ys. arrived came old ++ ys) (arrived_zeros came p.count)
    ∙ ap (λ (c : ℕ). arrived came old ++ replicate c None) zeros) last

-- ---- the arrivals of bids that came in the order of their numbers

pub within_push : (n : ℕ) (arrivals : List ℕ) (p : ℕ) → AreWithin n arrivals → p ≤ n → AreWithin n (arrivals ++ p ∷ [])
within_push n [] p all l = (l, tt)
within_push n (q ∷ arrivals) p all l = (all.0, within_push n arrivals p all.1 l)

pub arrived_numbered : (came : List PlainBid) (k : ℕ) → k ≤ length came → arrived came (arrivals_to k) ≡ all_of (take k came)
arrived_numbered came zero l = refl
arrived_numbered came (suc k) l = map-append (slot_at came) (arrivals_to k) (suc k ∷ [])
    ∙ ap₂ (λ (xs : List (Option PlainBid)) (x : Option PlainBid). xs ++ x ∷ []) (arrived_numbered came k (omega arith))
    (slice_get-get_or came k number_alone (omega arith)) ∙ sym (map-append (λ b. Some b) (take k came) (get_or came k number_alone ∷ []))
    ∙ ap all_of (search (rules, take_more))

-- more arrivals within reach
pub within_more : (n m : ℕ) (arrivals : List ℕ) → AreWithin n arrivals → n ≤ m → AreWithin m arrivals
within_more n m [] all l = tt
within_more n m (p ∷ arrivals) all l = let here : p ≤ n = all.0 in (omega arith, within_more n m arrivals all.1 l)

pub within_set : (n : ℕ) (arrivals : List ℕ) (i p : ℕ) → AreWithin n arrivals → p ≤ n → AreWithin n (set arrivals i p)
within_set n [] i p all l = tt
within_set n (q ∷ arrivals) zero p all l = (l, all.1)
within_set n (q ∷ arrivals) (suc i) p all l = (all.0, within_set n arrivals i p all.1 l)

-- ---- the bids that are there

filled_came : (came : List PlainBid) → filled (all_of came) ≡ came
filled_came [] = refl
filled_came (b ∷ came) = ap (λ bs. b ∷ bs) (filled_came came)

pub next_arrival : (arrivals : List ℕ) (n : ℕ) → n < length arrivals → get_or arrivals n 0 ≡ n + 1 → take n arrivals ≡ arrivals_to n
    → take (n + 1) arrivals ≡ arrivals_to (n + 1)
next_arrival arrivals n l e h =
    take_more arrivals n 0 l ∙ ap₂ (λ (xs : List ℕ) (x : ℕ). xs ++ x ∷ []) h (e ∙ add-one n) ∙ sym (ap arrivals_to (add-one n))

-- those that came in the order of their numbers
pub filled_numbered : (came : List PlainBid) (arrivals : List ℕ) → length arrivals ≡ length came → arrivals ≡ arrivals_to (length arrivals)
    → came ≡ filled (arrived came arrivals)
filled_numbered came arrivals long e =
    sym (ap (λ (ks : List ℕ). filled (arrived came ks)) e ∙ ap filled (arrived_numbered came (length arrivals) (omega arith))
    ∙ ap (λ (bs : List PlainBid). filled (all_of bs)) (take_all (length arrivals) came (omega arith)) ∙ filled_came came)

filled_more : (came : List PlainBid) (arrivals : List ℕ) (p : ℕ)
    → filled (arrived came (arrivals ++ p ∷ [])) ≡ filled (arrived came arrivals) ++ option_to_list (slot_at came p)
filled_more came arrivals p = grind (arith, common_steps, filter_map-append, map-append)

-- no bid has the arrival 0
pub kept_none : (came kept : List PlainBid) (arrivals : List ℕ) (p : ℕ) → kept ≡ filled (arrived came arrivals) → p ≡ 0
    → kept ≡ filled (arrived came (arrivals ++ p ∷ []))
kept_none came kept arrivals p e none =
    e ∙ sym (append-nil (filled (arrived came arrivals))) ∙ ap (λ (k : ℕ). filled (arrived came arrivals) ++ option_to_list (slot_at came k)) (sym none)
    ∙ sym (filled_more came arrivals p)

-- the bid of an arrival is kept
pub kept_more : (came kept next : List PlainBid) (arrivals : List ℕ) (p j : ℕ) → kept ≡ filled (arrived came arrivals) → 0 < p → j ≡ p - 1 → j < length came
    → ((bid : PlainBid) → slice_get came j ≡ Some bid → next ≡ kept ++ bid ∷ []) → next ≡ filled (arrived came (arrivals ++ p ∷ []))
kept_more came kept next arrivals zero j e some at l more = absurd (let no : 0 < 0 = some in omega arith)
kept_more came kept next arrivals (suc i) j e some at l more =
    let b = get_or came j number_alone in
    let here : slice_get came j ≡ Some b = slice_get-get_or came j number_alone l in
    let same : j ≡ i = omega arith in
    more b here ∙ ap (λ ks. ks ++ b ∷ []) e ∙ ap (λ o. filled (arrived came arrivals) ++ option_to_list o) (sym here ∙ ap (slice_get came) same)
    ∙ sym (filled_more came arrivals (suc i))

-- each of many that are the same
pub same_bid : (count i : ℕ) (x bid : PlainBid) → slice_get (replicate count x) i ≡ Some bid → bid ≡ x
same_bid zero i x bid e = cc
same_bid (suc count) zero x bid e = grind (arith, common_steps)
same_bid (suc count) (suc i) x bid e = same_bid count i x bid e
