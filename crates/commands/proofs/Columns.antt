-- The words before a column, and from it on.
use Rattle.std.proofs.Common.{◌≡◌, ◌∙◌, ◌<◌, ◌≤◌, ◌==◌, ◌-◌, ℕ, zero, suc, Bool, true, false, List, [], ◌∷◌, length, drop, take, ap, arith, refl}
use Rattle.std.proofs.lemmas.Bool.{ne_eqb}
use Rattle.std.proofs.Math.Seq.{drop-nil}
use Rattle.std.specs.Prelude.{not}
use Rattle.cats_text.specs.Lines.{begins_word, is_blank, line_words, with_letter, Word}
use Rattle.commands.specs.Columns.{bytes_before}

-- ---- one byte of a word

module _ (b : ℕ) (bs : List ℕ) (letter : is_blank b ≡ false) where
  inside : (n : ℕ) → begins_word bs ≡ true → bytes_before (suc n) (b ∷ bs) ≡ suc (bytes_before (suc n) bs)
  inside n joins = let some : (suc n == 0) ≡ false = ne_eqb (suc n) 0 (λ e. absurd (omega (arith, e))) in rw (letter, some, joins) refl

  at_end : (n : ℕ) → begins_word bs ≡ false → bytes_before (suc n) (b ∷ bs) ≡ suc (bytes_before n bs)
  at_end n ends =
      let some : (suc n == 0) ≡ false = ne_eqb (suc n) 0 (λ e. absurd (omega (arith, e))) in
      let less : suc n - 1 ≡ n = omega arith in
      rw (letter, some, ends) (ap (λ (k : ℕ). suc (bytes_before k bs)) less)

drop_with_letter : (b n : ℕ) (ws : List Word) → drop (suc n) (with_letter b ws) ≡ drop (suc n) ws
drop_with_letter b n [] = drop-nil n
drop_with_letter b n (w ∷ ws) = refl

take_with_letter : (b n : ℕ) (ws : List Word) → with_letter b (take (suc n) ws) ≡ take (suc n) (with_letter b ws)
take_with_letter b zero [] = refl
take_with_letter b (suc n) [] = refl
take_with_letter b n (w ∷ ws) = refl

longer : (b : ℕ) (ws : List Word) → (length ws ≤ length (with_letter b ws)) × (1 ≤ length (with_letter b ws))
longer b [] = (omega arith, omega arith)
longer b (w ∷ ws) = (omega arith, omega arith)

-- ---- all bytes

-- behind the last word all bytes come before
pub all_before : (line : List ℕ) (words : ℕ) → length (line_words line) ≤ words → bytes_before words line ≡ length line
all_before [] words l = refl
all_before (b ∷ bs) words l = go (λ n h. all_before bs n h) (is_blank b) (begins_word bs) words refl refl l
  where
    go : ((n : ℕ) → length (line_words bs) ≤ n → bytes_before n bs ≡ length bs) → (blank joins : Bool) (words : ℕ) → is_blank b ≡ blank
        → begins_word bs ≡ joins → length (line_words (b ∷ bs)) ≤ words → bytes_before words (b ∷ bs) ≡ suc (length bs)
    go later true joins words e f l = rw e (ap suc (later words (rw e at l)))
    go later false true words e f l =
        let less : length (with_letter b (line_words bs)) ≤ words = rw (e, f) at l in
        by words (omega (arith, less, (longer b (line_words bs)).0)) (omega (arith, less, (longer b (line_words bs)).1))
      where
        by : (words : ℕ) → length (line_words bs) ≤ words → 1 ≤ words → bytes_before words (b ∷ bs) ≡ suc (length bs)
        by zero m l = absurd (omega (arith, l))
        by (suc n) m l = inside b bs e n f ∙ ap suc (later (suc n) m)
    go later false false zero e f l = let some : suc (length (line_words bs)) ≤ 0 = rw (e, f) at l in absurd (omega (arith, some))
    go later false false (suc n) e f l =
        let less : suc (length (line_words bs)) ≤ suc n = rw (e, f) at l in at_end b bs e n f ∙ ap suc (later n (omega (arith, less)))

-- from the column on, a line has the words that are left
pub words_from : (line : List ℕ) (words : ℕ) → line_words (drop (bytes_before words line) line) ≡ drop words (line_words line)
words_from [] words = rw (drop-nil {A = Word} words) refl
words_from (b ∷ bs) words = go (λ n. words_from bs n) (is_blank b) (begins_word bs) words refl refl
  where
    go : ((n : ℕ) → line_words (drop (bytes_before n bs) bs) ≡ drop n (line_words bs)) → (blank joins : Bool) (words : ℕ) → is_blank b ≡ blank
        → begins_word bs ≡ joins → line_words (drop (bytes_before words (b ∷ bs)) (b ∷ bs)) ≡ drop words (line_words (b ∷ bs))
    go later true joins words e f = rw e (later words)
    go later false joins zero e f = rw (e, e) refl
    go later false true (suc n) e f = rw (inside b bs e n f, e, f, drop_with_letter b n (line_words bs)) (later (suc n))
    go later false false (suc n) e f = rw (at_end b bs e n f, e, f) (later n)

-- before the column, a line has the words before
begins_too : (n : ℕ) (bs : List ℕ) → begins_word bs ≡ false → begins_word (take n bs) ≡ false
begins_too zero bs e = refl
begins_too (suc n) [] e = refl
begins_too (suc n) (b ∷ bs) e = e

begins_still : (n : ℕ) (bs : List ℕ) → begins_word bs ≡ true → begins_word (take (bytes_before (suc n) bs) bs) ≡ true
begins_still n [] e = cc
begins_still n (b ∷ bs) e = go (is_blank b) (begins_word bs) refl refl e
  where
    go : (blank joins : Bool) → is_blank b ≡ blank → begins_word bs ≡ joins → not (is_blank b) ≡ true
        → begins_word (take (bytes_before (suc n) (b ∷ bs)) (b ∷ bs)) ≡ true
    go true joins e f is = let no : false ≡ true = rw e at is in cc
    go false true e f is = rw (inside b bs e n f) is
    go false false e f is = rw (at_end b bs e n f) is

pub words_before : (line : List ℕ) (words : ℕ) → line_words (take (bytes_before words line) line) ≡ take words (line_words line)
words_before [] zero = refl
words_before [] (suc n) = refl
words_before (b ∷ bs) words = go (λ n. words_before bs n) (is_blank b) (begins_word bs) words refl refl
  where
    go : ((n : ℕ) → line_words (take (bytes_before n bs) bs) ≡ take n (line_words bs)) → (blank joins : Bool) (words : ℕ) → is_blank b ≡ blank
        → begins_word bs ≡ joins → line_words (take (bytes_before words (b ∷ bs)) (b ∷ bs)) ≡ take words (line_words (b ∷ bs))
    go later true joins words e f = rw (e, e) (later words)
    go later false joins zero e f = rw e refl
    go later false true (suc n) e f =
        rw (inside b bs e n f, e, f, begins_still n bs f) (ap (with_letter b) (later (suc n)) ∙ take_with_letter b n (line_words bs))
    go later false false (suc n) e f =
        rw (at_end b bs e n f, e, f, begins_too (bytes_before n bs) bs f) (ap (λ (ws : List Word). (b ∷ []) ∷ ws) (later n))

-- at the column a word begins, if there is one more
pub begins_there : (line : List ℕ) (words : ℕ) → words < length (line_words line) → begins_word (drop (bytes_before words line) line) ≡ true
begins_there [] words l = absurd (omega (arith, l))
begins_there (b ∷ bs) words l = go (λ n h. begins_there bs n h) (is_blank b) (begins_word bs) words refl refl l
  where
    more : (n : ℕ) (ws : List Word) → suc n < length (with_letter b ws) → suc n < length ws
    more n [] l = absurd (omega (arith, l))
    more n (w ∷ ws) l = l

    go : ((n : ℕ) → n < length (line_words bs) → begins_word (drop (bytes_before n bs) bs) ≡ true) → (blank joins : Bool) (words : ℕ)
        → is_blank b ≡ blank → begins_word bs ≡ joins → words < length (line_words (b ∷ bs))
        → begins_word (drop (bytes_before words (b ∷ bs)) (b ∷ bs)) ≡ true
    go later true joins words e f l = rw e (later words (rw e at l))
    go later false joins zero e f l = rw (e, e) refl
    go later false true (suc n) e f l =
        let less : suc n < length (with_letter b (line_words bs)) = rw (e, f) at l in
        rw (inside b bs e n f) (later (suc n) (more n (line_words bs) less))
    go later false false (suc n) e f l =
        let less : suc n < suc (length (line_words bs)) = rw (e, f) at l in rw (at_end b bs e n f) (later n (omega (arith, less)))
