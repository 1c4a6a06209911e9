-- The numbers of the bids behind an auction's atoms, bid by bid: each number is put at the end of the OR bidder's list, or of the list
-- of one XOR bidder. There are as many numbers as atoms.
use Rattle.commands.proofs.Common.{◌≡◌, ℕ, suc, ◌+◌, ◌<◌, Bool, true, false, cond, List, [], ◌∷◌, ◌++◌, length, map, get_or, set, take, Some, None, Global}
use Rattle.commands.proofs.Common.{refl, sym, ap, ◌∙◌, arith, append_assoc, append-nil, zero-add, Vec, range_with_len, ne_eqb, eq-eqb, take_more, length-map}
use Rattle.commands.proofs.Common.{length-take-le, map-set, PlainBid, atom_of, is_dummy, or_atoms_of, xor_atoms_of, numbers_from, or_numbers, xor_numbers}
use Rattle.commands.proofs.Common.{lists_of, is_none, filter}
use Rattle.commands.proofs.ByNumber.{by_number-same, by_number-set, seen_by_number-length, seen_by_number-at}

-- ---- as many as atoms

length-numbers_from : (p : PlainBid → Bool) (n : ℕ) (bids : List PlainBid) → length (numbers_from p n bids) ≡ length (filter p bids)
length-numbers_from p n [] = refl
length-numbers_from p n (b ∷ bids) = grind (arith, length-numbers_from p (suc n) bids)

pub length-or_numbers : (bids : List PlainBid) → length (or_numbers bids) ≡ length (or_atoms_of bids)
length-or_numbers bids = length-numbers_from (λ b. is_none b.dummy) 0 bids ∙ sym (length-map (filter (λ b. is_none b.dummy) bids) atom_of)

pub length-xor_numbers : (bids : List PlainBid) (d : ℕ) → length (xor_numbers bids d) ≡ length (xor_atoms_of bids d)
length-xor_numbers bids d = length-numbers_from (λ b. is_dummy d b.dummy) 0 bids ∙ sym (length-map (filter (λ b. is_dummy d b.dummy) bids) atom_of)

-- ---- one more bid

numbers_from-push : (p : PlainBid → Bool) (n : ℕ) (bids : List PlainBid) (b : PlainBid) → numbers_from p n (bids ++ b ∷ []) ≡ numbers_from p n bids
    ++ cond (p b) ((n + length bids) ∷ []) []
numbers_from-push p n [] b = grind arith
numbers_from-push p n (x ∷ xs) b = let e : suc n + length xs ≡ n + length (x ∷ xs) = omega arith in rw (numbers_from-push p (suc n) xs b, e, append_assoc)

abbrev items : Vec ℕ Global → List ℕ
items v = v.items

-- how many lists there are
pub length-lists_of : (lists : List (Vec ℕ Global)) (bids : List PlainBid) (n : ℕ) → lists_of lists ≡ map (xor_numbers bids) (range_with_len 0 n)
    → length lists ≡ n
length-lists_of lists bids n h = seen_by_number-length items lists (xor_numbers bids) n h

-- the list of a bidder
pub list_at : (lists : List (Vec ℕ Global)) (bids : List PlainBid) (n d : ℕ) (v : Vec ℕ Global) → lists_of lists ≡ map (xor_numbers bids) (range_with_len 0 n)
    → d < n → v ≡ get_or lists d v → v.items ≡ xor_numbers bids d
list_at lists bids n d v h m is = seen_by_number-at items lists (xor_numbers bids) n h d v m is

module _ (bids : List PlainBid) (i : ℕ) (b : PlainBid) (l : i < length bids) (here : get_or bids i b ≡ b) where
  more : (p : PlainBid → Bool) → numbers_from p 0 (take (i + 1) bids) ≡ numbers_from p 0 (take i bids) ++ cond (p b) (i ∷ []) []
  more p =
      let long : 0 + length (take i bids) ≡ i = zero-add (length (take i bids)) ∙ length-take-le i bids (omega arith) in
      rw (take_more bids i b l, here, numbers_from-push, long)

  kept : (p : PlainBid → Bool) → p b ≡ true → numbers_from p 0 (take (i + 1) bids) ≡ numbers_from p 0 (take i bids) ++ i ∷ []
  kept p t = rw (more p, t)

  left_out : (p : PlainBid → Bool) → p b ≡ false → numbers_from p 0 (take (i + 1) bids) ≡ numbers_from p 0 (take i bids)
  left_out p t = rw (more p, t, append-nil)

  -- a bid without a dummy good is the OR bidder's
  pub number-or : (numbers longer : List ℕ) → b.dummy ≡ None → numbers ≡ or_numbers (take i bids) → longer ≡ numbers ++ i ∷ []
      → longer ≡ or_numbers (take (i + 1) bids)
  number-or numbers longer n h e = rw (e, h, kept (λ b. is_none b.dummy) (ap is_none n))

  pub xor_numbers-same : b.dummy ≡ None → (n : ℕ) → map (xor_numbers (take (i + 1) bids)) (range_with_len 0 n)
      ≡ map (xor_numbers (take i bids)) (range_with_len 0 n)
  xor_numbers-same none n =
      sym (by_number-same (xor_numbers (take i bids)) _ n refl (xor_numbers (take (i + 1) bids)) []
      (λ k. left_out (λ b. is_dummy k b.dummy) (ap (is_dummy k) none)))

  -- a bid with one is that bidder's
  pub or_numbers-same : (d : ℕ) → b.dummy ≡ Some d → or_numbers (take (i + 1) bids) ≡ or_numbers (take i bids)
  or_numbers-same d s = left_out (λ b. is_none b.dummy) (ap is_none s)

  pub number-xor : (lists changed : List (Vec ℕ Global)) (old new : Vec ℕ Global) (d n : ℕ) → b.dummy ≡ Some d → d < n
      → lists_of lists ≡ map (xor_numbers (take i bids)) (range_with_len 0 n) → old ≡ get_or lists d old → new.items ≡ old.items ++ i ∷ []
      → changed ≡ set lists d new → lists_of changed ≡ map (xor_numbers (take (i + 1) bids)) (range_with_len 0 n)
  number-xor lists changed old new d n s m h is e c =
      ap lists_of c ∙ map-set items lists d new
      ∙ by_number-set (xor_numbers (take i bids)) (lists_of lists) n h (xor_numbers (take (i + 1) bids)) [] d m new.items
      (kept (λ b. is_dummy d b.dummy) (ap (is_dummy d) s ∙ eq-eqb d d refl)
      ∙ ap (λ (xs : List ℕ). xs ++ i ∷ []) (sym (list_at lists (take i bids) n d old h m is)) ∙ sym e)
      (λ k differ. left_out (λ b. is_dummy k b.dummy) (ap (is_dummy k) s ∙ ne_eqb d k (λ f. differ (sym f))))
