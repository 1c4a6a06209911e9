-- Words and lines: digits in two runs, blanks, the first word and the second.
use Rattle.rounding.proofs.Common.{rules, ◌≡◌, ℕ, zero, suc, ◌+◌, ◌-◌, ◌<◌, ◌≤◌, Bool, true, false, not, ◌&&◌, ◌||◌, eqb, List, [], ◌∷◌, ◌++◌, length, take, ap}
use Rattle.rounding.proofs.Common.{drop, if◌then◌else◌, get_or, refl, sym, ◌∙◌, arith, drop-cons, length-append, append_assoc, both_ways, and_from, eq-eqb}
use Rattle.rounding.proofs.Common.{drop_all, take_rest, list_all-append, take-append_seam, drop-nil, Word, is_blank, line_byte, line_ends, blank_returns}
use Rattle.rounding.proofs.Common.{line_words, with_letter, is_significant, is_number, digits_alone, is_digit, whole_part, places, has_point, is_price, digits}
use Rattle.rounding.proofs.Common.{significand, exponent, has_exponent, without_sign, is_decimal, blanks, behind_blanks, leading_word, from_second}
use Rattle.rounding.proofs.Common.{before_second, common_steps}
use Rattle.rounding.proofs.Spans.{blanks_both, word_both, blanks_dropped, word_dropped, mark_cut, point_cut}

-- ---- digits in two runs

pub number_leading : (b : ℕ) (bs ds : Word) → is_number (b ∷ bs ++ ds) ≡ (digits_alone (b ∷ bs) && digits_alone ds)
number_leading b bs ds = list_all-append is_digit (b ∷ bs) ds

pub digits_both : (a b : Word) → eqb (length a) 0 ≡ false → is_number (a ++ b) ≡ (digits_alone a && digits_alone b)
digits_both [] b h = absurd (both_ways (eqb 0 0) h refl)
digits_both (x ∷ xs) b h = number_leading x xs b

-- ---- decimals

pub digits_known : (w s a b : Word) (r : Bool) → s ≡ significand w → a ≡ whole_part s → b ≡ places s → r ≡ is_number (a ++ b) → r ≡ true
    → is_number (digits w) ≡ true
digits_known w s a b r es ea eb er e = grind (arith, common_steps)

pub decimal_without : (w : Word) (k : ℕ) → is_number (digits w) ≡ true → k ≡ length (significand w) → k ≡ length w → eqb k (length w) ≡ is_decimal w
decimal_without w k d e h =
    eq-eqb k (length w) h ∙ sym (and_from (is_number (digits w)) (not (has_exponent w) || is_number (without_sign (exponent w))) d
    (ap (λ v. not v || is_number (without_sign (exponent w))) ((mark_cut w).has_none (omega arith))))

pub decimal_with : (w : Word) (k : ℕ) (r : Bool) → is_number (digits w) ≡ true → k ≡ length (significand w) → k ≤ length w → (k ≡ length w → ⊥)
    → r ≡ is_number (without_sign (exponent w)) → r ≡ is_decimal w
decimal_with w k r d e le ne er =
    er ∙ sym (ap (λ v. v && (not (has_exponent w) || is_number (without_sign (exponent w)))) d
    ∙ ap (λ v. not v || is_number (without_sign (exponent w))) ((mark_cut w).has (omega arith)))

-- ---- prices

pub price_without : (w : Word) (k : ℕ) (r : Bool) → k ≡ length (whole_part w) → r ≡ is_number (whole_part w) → r ≡ true → k ≡ length w
    → eqb k (length w) ≡ is_price w
price_without w k r e er t h =
    eq-eqb k (length w) h ∙ sym (and_from (is_number (whole_part w)) (not (has_point w) || is_number (places w)) (sym er ∙ t)
    (ap (λ v. not v || is_number (places w)) ((point_cut w).has_none (omega arith))))

pub price_with : (w : Word) (k : ℕ) (r s : Bool) → k ≡ length (whole_part w) → r ≡ is_number (whole_part w) → r ≡ true → (k ≡ length w → ⊥)
    → s ≡ is_number (places w) → s ≡ is_price w
price_with w k r s e er t ne es =
    es ∙ sym (ap (λ v. v && (not (has_point w) || is_number (places w))) (sym er ∙ t)
    ∙ ap (λ v. not v || is_number (places w)) ((point_cut w).has (omega (arith, (point_cut w).within))))

-- ---- a line is its parts

pub second_both : (l : List ℕ) → before_second l ++ from_second l ≡ l
second_both l = grind (arith, common_steps, append_assoc, blanks_both, word_both)

pub second_taken : (l : List ℕ) → take (length (before_second l)) l ≡ before_second l
second_taken l = sym (ap (take (length (before_second l))) (second_both l)) ∙ take-append_seam (before_second l) (from_second l)

-- ---- blanks

pub return_blank : (bs : List ℕ) → is_blank (line_byte 13 bs) ≡ line_ends bs
return_blank bs = elim (line_ends bs) as (λ v. is_blank (if v then 32 else 13) ≡ v) [ true ↦ refl | false ↦ refl ]

pub byte_stays : (b : ℕ) (bs : List ℕ) → is_blank (line_byte b bs) ≡ false → line_byte b bs ≡ b
byte_stays b bs = grind (arith, common_steps)

pub blank_if_return : (l : List ℕ) (i : ℕ) (r : Bool) → get_or l i 0 ≡ 13 → r ≡ line_ends (take (length l - (i + 1)) (drop (i + 1) l))
    → r ≡ is_blank (line_byte (get_or l i 0) (drop (suc i) l))
blank_if_return l i r e er = search (rules, take_rest, return_blank)

-- ---- where the second word begins

pub drop_more : (l : List ℕ) (a b : ℕ) → drop (a + b) l ≡ drop b (drop a l)
drop_more l zero b = let same : 0 + b ≡ b = omega arith in ap (λ n. drop n l) same
drop_more [] (suc a) b = drop-nil (suc a + b) ∙ sym (drop-nil b)
drop_more (x ∷ xs) (suc a) b = let same : suc a + b ≡ suc (a + b) = omega arith in ap (λ n. drop n (x ∷ xs)) same ∙ drop_more xs a b

pub second_count : (l : List ℕ) (a b c : ℕ) → a ≡ length (blanks l) → b ≡ length (leading_word (take (length l - a) (drop a l)))
    → c ≡ length (blanks (take (length l - (a + b)) (drop (a + b) l))) → a + b + c ≡ length (before_second l)
second_count l a b c ea eb ec = grind (arith, common_steps, blanks_dropped, drop_more, length-append, take_rest, word_dropped)

-- ---- significant lines

abbrev pub begins : List ℕ → Bool
begins [] = false
begins (b ∷ bs) = not (eqb b 37)

pub significant_letter : (x : ℕ) (ws : List Word) → is_significant (with_letter x ws) ≡ not (eqb x 37)
significant_letter x [] = refl
significant_letter x (w ∷ ws) = refl

pub significant_byte : (x : ℕ) (xs : List ℕ) → is_blank x ≡ false → is_significant (line_words (x ∷ xs)) ≡ not (eqb x 37)
significant_byte x xs e = grind (arith, common_steps, significant_letter)

pub significant_line : (l : List ℕ) → is_significant (line_words (blank_returns l)) ≡ begins (behind_blanks l)
significant_line [] = refl
significant_line (b ∷ bs) = grind (arith, common_steps, byte_stays, significant_byte, (significant_line bs))

pub significant_at : (l : List ℕ) (k : ℕ) → k ≡ length (blanks l) → k < length l → not (eqb (get_or l k 0) 37) ≡ is_significant (line_words (blank_returns l))
significant_at l k e h = grind (arith, common_steps, blanks_dropped, drop-cons, significant_line)

pub significant_none : (l : List ℕ) (k : ℕ) → k ≡ length (blanks l) → length l ≤ k → is_significant (line_words (blank_returns l)) ≡ false
significant_none l k e h = significant_line l ∙ ap begins (sym (blanks_dropped l) ∙ ap (λ n. drop n l) (sym e) ∙ drop_all k l h)
