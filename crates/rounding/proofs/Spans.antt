-- Runs of bytes up to the first one of a kind: their lengths, one byte further, and what is behind them.
use Rattle.rounding.proofs.Common.{rules, ◌≡◌, ℕ, suc, ◌+◌, ◌-◌, ◌<◌, ◌≤◌, Bool, true, false, not, ◌||◌, eqb, List, [], ◌∷◌, ◌++◌, length, take, drop, get_or}
use Rattle.rounding.proofs.Common.{refl, if◌then◌else◌, sym, ap, ◌∙◌, arith, drop-cons, add-one, take_rest, drop_all, front_rest, common_steps, Word, is_blank}
use Rattle.rounding.proofs.Common.{take-append_seam, line_byte, whole_part, places, has_point, significand, exponent, has_exponent, blanks, behind_blanks}
use Rattle.rounding.proofs.Common.{leading_word, behind_word, first_line, behind_line, has_line_end}

-- ---- a loop that counts the bytes of a run

-- what is the run at the beginning of bytes, by whether it ends before a byte and those behind it
module _ (run : List ℕ → List ℕ) (ends : ℕ → List ℕ → Bool) (step : (b : ℕ) (bs : List ℕ) → run (b ∷ bs) ≡ (if ends b bs then [] else b ∷ run bs)) where
  pub further : (w : List ℕ) (i n : ℕ) → i < length w → ends (get_or w i 0) (drop (suc i) w) ≡ false → i + length (run (drop i w)) ≡ n
      → (i + 1) + length (run (drop (i + 1) w)) ≡ n
  further w i n l e h = grind (arith, common_steps, add-one, drop-cons)

  pub found : (w : List ℕ) (i n : ℕ) → i < length w → ends (get_or w i 0) (drop (suc i) w) ≡ true → i + length (run (drop i w)) ≡ n → i ≡ n
  found w i n l e h = grind (arith, common_steps, drop-cons)

pub blanks_step : (b : ℕ) (bs : List ℕ) → blanks (b ∷ bs) ≡ (if not (is_blank (line_byte b bs)) then [] else b ∷ blanks bs)
blanks_step b bs = grind (arith, common_steps)

-- ---- bytes that are cut in two

pub blanks_both : (l : List ℕ) → blanks l ++ behind_blanks l ≡ l
blanks_both [] = refl
blanks_both (b ∷ bs) = grind (arith, common_steps, (blanks_both bs))

pub word_both : (l : List ℕ) → leading_word l ++ behind_word l ≡ l
word_both [] = refl
word_both (b ∷ bs) = grind (arith, common_steps, (word_both bs))

pub blanks_dropped : (l : List ℕ) → drop (length (blanks l)) l ≡ behind_blanks l
blanks_dropped l = front_rest l (blanks l) (behind_blanks l) (sym (blanks_both l))

pub blanks_taken : (l : List ℕ) → take (length (blanks l)) l ≡ blanks l
blanks_taken l = sym (ap (take (length (blanks l))) (blanks_both l)) ∙ take-append_seam (blanks l) (behind_blanks l)

pub word_dropped : (l : List ℕ) → drop (length (leading_word l)) l ≡ behind_word l
word_dropped l = front_rest l (leading_word l) (behind_word l) (sym (word_both l))

pub word_taken : (l : List ℕ) → take (length (leading_word l)) l ≡ leading_word l
word_taken l = sym (ap (take (length (leading_word l))) (word_both l)) ∙ take-append_seam (leading_word l) (behind_word l)

-- ---- the bytes before the first of a kind, those behind it, and whether there is one

pub record IsCutIn (w front back : List ℕ) (some : Bool) : Type 0 where
  pub taken : take (length front) w ≡ front
  pub within : length front ≤ length w
  pub dropped : length front < length w → drop (suc (length front)) w ≡ back
  pub none : length w ≤ length front → back ≡ []
  pub has : length front < length w → some ≡ true
  pub has_none : length w ≤ length front → some ≡ false

nothing_cut : IsCutIn [] [] [] false
nothing_cut = grind (arith, common_steps)

cut_here : (b : ℕ) (bs : List ℕ) → IsCutIn (b ∷ bs) [] bs true
cut_here b bs = grind (arith, common_steps)

cut_later : (b : ℕ) (bs front back : List ℕ) (some : Bool) → IsCutIn bs front back some → IsCutIn (b ∷ bs) (b ∷ front) back some
cut_later b bs front back some c = grind (arith, common_steps)

cut_by : (b : ℕ) (bs front back : List ℕ) (some here : Bool) → IsCutIn bs front back some
    → IsCutIn (b ∷ bs) (if here then [] else b ∷ front) (if here then bs else back) (here || some)
cut_by b bs front back some true c = cut_here b bs
cut_by b bs front back some false c = cut_later b bs front back some c

pub point_cut : (w : Word) → IsCutIn w (whole_part w) (places w) (has_point w)
point_cut [] = nothing_cut
point_cut (b ∷ bs) = cut_by b bs (whole_part bs) (places bs) (has_point bs) (eqb b 46) (point_cut bs)

pub mark_cut : (w : Word) → IsCutIn w (significand w) (exponent w) (has_exponent w)
mark_cut [] = nothing_cut
mark_cut (b ∷ bs) = cut_by b bs (significand bs) (exponent bs) (has_exponent bs) (eqb b 101 || eqb b 69) (mark_cut bs)

pub line_cut : (t : List ℕ) → IsCutIn t (first_line t) (behind_line t) (has_line_end t)
line_cut [] = nothing_cut
line_cut (b ∷ bs) = cut_by b bs (first_line bs) (behind_line bs) (has_line_end bs) (eqb b 10) (line_cut bs)

-- what is behind, as slices
pub behind_cut : (w front back : List ℕ) (some : Bool) (k : ℕ) → IsCutIn w front back some → k ≡ length front → k < length w
    → take (length w - (k + 1)) (drop (k + 1) w) ≡ back
behind_cut w front back some k c e h = search (rules, take_rest)

pub behind_end : (w front back : List ℕ) (some : Bool) (k : ℕ) → IsCutIn w front back some → k ≡ length front → length w ≤ k
    → take (length w - k) (drop k w) ≡ back
behind_end w front back some k c e h = take_rest w k ∙ drop_all k w h ∙ sym (c.none (omega arith))
