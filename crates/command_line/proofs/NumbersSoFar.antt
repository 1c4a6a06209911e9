-- The numbers of a list of texts are those of its first text and of the others.
use Rattle.command_line.proofs.Common.{◌≡◌, ◌∙◌, ◌++◌, ◌+◌, ◌-◌, ◌<◌, ◌≤◌, ℕ, Bool, true, false, List, [], ◌∷◌, Option, None, Some, drop, get_or, length, ap}
use Rattle.command_line.proofs.Common.{arith, le-leb, refl, suc, sym, zero, Bor, range_with_len, slice_split, ◌==◌, if◌then◌else◌, not, option_and_then}
use Rattle.command_line.proofs.Common.{option_map, lt-leb, fold-append, fold_push, at_drop_more, all_numbers, ends_of, numbers_of_part, joined, texts_of}
use Rattle.command_line.proofs.Common.{with_all, with_named}

-- the numbers so far, and those that are found after them
abbrev pub after : List ℕ → Option (List ℕ) → Option (List ℕ)
after so_far found = option_map (with_all so_far) found

joined_after : (so_far : List ℕ) (found rest : Option (List ℕ)) → after so_far (joined found rest)
    ≡ option_and_then (λ new. after new rest) (after so_far found)
joined_after so_far None rest = refl
joined_after so_far (Some xs) None = refl
joined_after so_far (Some xs) (Some ys) = ap Some (fold-append with_named so_far xs ys)

-- one text more, of which these are the numbers so far, or which is wrong
pub one_more : (numbers_of : List ℕ → Option (List ℕ)) (so_far : List ℕ) (now : Option (List ℕ)) (texts : List (Bor (List ℕ))) (i : ℕ) (d : Bor (List ℕ))
    → i < length texts → now ≡ after so_far (numbers_of (get_or texts i d).now) → after so_far (all_numbers numbers_of (texts_of (drop i texts)))
    ≡ option_and_then (λ new. after new (all_numbers numbers_of (texts_of (drop (i + 1) texts)))) now
one_more numbers_of so_far now texts i d lt is =
    at_drop_more (λ ts. after so_far (all_numbers numbers_of (texts_of ts))) texts i d lt
    ∙ rw is (joined_after so_far (numbers_of (get_or texts i d).now) (all_numbers numbers_of (texts_of (drop (i + 1) texts))))

-- a word that is right
pub right_word : (right : Bool) (new : List ℕ) (found : Option (List ℕ)) → not right ≡ false → (if right then Some new else None) ≡ found → Some new ≡ found
right_word true new found is same = same
right_word false new found is same = cc

-- ---- ranges

range_more : (a n j : ℕ) → a + n ≡ j → range_with_len a (suc n) ≡ range_with_len a n ++ j ∷ []
range_more a zero j e = ap (λ k. k ∷ []) (omega (arith, e))
range_more a (suc n) j e = ap (λ l. a ∷ l) (range_more (a + 1) n j (omega (arith, e)))

pub pushed : (so_far items new : List ℕ) (first n last : ℕ) → first ≤ n → n ≡ last → new ≡ with_named items n
    → items ≡ with_all so_far (range_with_len first (n - first)) → new ≡ with_all so_far (range_with_len first (last + 1 - first))
pushed so_far items new first n last le is push before =
    let longer : suc (n - first) ≡ last + 1 - first = omega (arith, le, is) in
    let more = range_more first (n - first) n (omega (arith, le)) in
    rw (push, before, ← longer, more) (sym (fold_push with_named so_far (range_with_len first (n - first)) n))

module _ (most : ℕ) (so_far : List ℕ) (parts : List (Bor (List ℕ))) (i : ℕ) (d : Bor (List ℕ)) (lt : i < length parts) (first last : ℕ)
    (ends : Some (first, last) ≡ ends_of most (slice_split (λ b. b == 45) (get_or parts i d).now)) where
  pub one_range : (new : List ℕ) → first ≤ last → new ≡ with_all so_far (range_with_len first (last + 1 - first))
      → after so_far (all_numbers (numbers_of_part most) (texts_of (drop i parts)))
      ≡ after new (all_numbers (numbers_of_part most) (texts_of (drop (i + 1) parts)))
  one_range new le is = one_more (numbers_of_part most) so_far (Some new) parts i d lt (rw (← ends, le-leb first last le) (ap Some is))

  pub no_range : last < first → after so_far (all_numbers (numbers_of_part most) (texts_of (drop i parts))) ≡ None
  no_range less = one_more (numbers_of_part most) so_far None parts i d lt (rw (← ends, lt-leb first last less) refl)

pub more_texts : (most : ℕ) (texts : List (Bor (List ℕ))) → 3 ≤ length texts → None ≡ ends_of most (texts_of texts)
more_texts most [] many = absurd (omega (arith, many))
more_texts most (a ∷ []) many = absurd (omega (arith, many))
more_texts most (a ∷ b ∷ []) many = absurd (omega (arith, many))
more_texts most (a ∷ b ∷ c ∷ texts) many = refl
