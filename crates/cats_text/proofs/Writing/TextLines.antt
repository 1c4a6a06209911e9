-- The lines and words of a text that is put together of words, blanks and line ends.
use Rattle.cats_text.proofs.Common.{◌≡◌, ℕ, suc, ◌<◌, true, false, eqb, List, [], ◌∷◌, ◌++◌, length, map, filter, refl, ◌∙◌, arith, AllByRecursion, false≢true}
use Rattle.cats_text.proofs.Common.{cond-true, cond-false, not_from_true, not_from_false, and_parts, and_left, or_from, ne_eqb, Word, is_blank, blank_returns}
use Rattle.cats_text.proofs.Common.{raw_lines, begins_word, with_letter, words_with, line_words, is_significant, numbered, is_digit, digits_alone, is_number}
use Rattle.cats_text.proofs.Common.{common_steps}
use Rattle.cats_text.proofs.Words.Places.{digit_bounds}

-- a byte of a line, other than CR
pub record IsInLine (b : ℕ) : Type 0 where
  pub feed : eqb b 10 ≡ false
  pub return : eqb b 13 ≡ false

-- and of a word
pub record IsLetter (b : ℕ) : Type 0 where
  pub blank : is_blank b ≡ false
  pub line : IsInLine b

pub record IsWord (w : Word) : Type 0 where
  pub some : 0 < length w
  pub letters : AllByRecursion IsLetter w

pub all_append : (P : ℕ → Type 0) (xs ys : List ℕ) → AllByRecursion P xs → AllByRecursion P ys → AllByRecursion P (xs ++ ys)
all_append P [] ys here there = there
all_append P (x ∷ xs) ys here there = (here.0, all_append P xs ys here.1 there)

pub letters_in_line : (w : Word) → AllByRecursion IsLetter w → AllByRecursion IsInLine w
letters_in_line [] letters = tt
letters_in_line (b ∷ bs) letters = (letters.0.line, letters_in_line bs letters.1)

digit_is_letter : (b : ℕ) → is_digit b ≡ true → IsLetter b
digit_is_letter b digit = grind (arith, common_steps, digit_bounds, ne_eqb, or_from)

pub digits_are_letters : (w : Word) → digits_alone w ≡ true → AllByRecursion IsLetter w
digits_are_letters [] digits = tt
digits_are_letters (b ∷ bs) digits = grind (arith, common_steps, and_parts, digit_is_letter, (digits_are_letters bs))

pub number_is_word : (w : Word) → is_number w ≡ true → IsWord w
number_is_word [] number = absurd (false≢true number)
number_is_word (b ∷ bs) number = record { some = omega arith; letters = digits_are_letters (b ∷ bs) number }

-- ---- words

blank_begins : (b : ℕ) (bs : List ℕ) (ws : List Word) → is_blank b ≡ true → words_with b bs ws ≡ ws
blank_begins b bs ws blank = cond-true _ _ _ blank

word_ends : (b : ℕ) (bs : List ℕ) (ws : List Word) → is_blank b ≡ false → begins_word bs ≡ false → words_with b bs ws ≡ (b ∷ []) ∷ ws
word_ends b bs ws letter ends = cond-false _ _ _ letter ∙ cond-false _ _ _ ends

word_continues : (b : ℕ) (bs : List ℕ) (ws : List Word) → is_blank b ≡ false → begins_word bs ≡ true → words_with b bs ws ≡ with_letter b ws
word_continues b bs ws letter on = cond-false _ _ _ letter ∙ cond-true _ _ _ on

-- a word before a blank
pub line_words-word : (w : Word) (b : ℕ) (bs : List ℕ) → IsWord w → is_blank b ≡ true → line_words (w ++ b ∷ bs) ≡ w ∷ line_words bs
line_words-word [] b bs word blank = absurd (omega (arith, word.some))
line_words-word (a ∷ []) b bs word blank = grind (arith, common_steps, blank_begins, not_from_true, word_ends)
line_words-word (a ∷ c ∷ w) b bs word blank = grind (arith, common_steps, not_from_false, word_continues, (line_words-word (c ∷ w) b bs))

-- the last word of a line
pub line_words-last : (w : Word) → IsWord w → line_words w ≡ w ∷ []
line_words-last [] word = absurd (omega (arith, word.some))
line_words-last (a ∷ []) word = word_ends a [] [] word.letters.0.blank refl
line_words-last (a ∷ c ∷ w) word = grind (arith, common_steps, not_from_false, word_continues, (line_words-last (c ∷ w)))

-- ---- lines

blank_returns-line : (line rest : List ℕ) → AllByRecursion IsInLine line → blank_returns (line ++ 10 ∷ rest) ≡ line ++ 10 ∷ blank_returns rest
blank_returns-line [] rest within = refl
blank_returns-line (b ∷ bs) rest within = grind (arith, common_steps, and_left, cond-false, (blank_returns-line bs rest within.1))

raw_lines-line : (line rest : List ℕ) → AllByRecursion IsInLine line → raw_lines (line ++ 10 ∷ rest) ≡ record { bytes = line; ended = true } ∷ raw_lines rest
raw_lines-line [] rest within = refl
raw_lines-line (b ∷ bs) rest within = grind (arith, common_steps, cond-false, (raw_lines-line bs rest within.1))

-- the words of the significant lines, the first line having a number
abbrev pub lines_from : ℕ → List ℕ → List (List Word)
lines_from n text = map (λ l. l.words) (filter (λ l. is_significant l.words) (numbered n (raw_lines (blank_returns text))))

-- a significant line
pub lines_from-line : (n : ℕ) (line rest : List ℕ) (ws : List Word) → AllByRecursion IsInLine line → line_words line ≡ ws → is_significant ws ≡ true
    → lines_from n (line ++ 10 ∷ rest) ≡ ws ∷ lines_from (suc n) rest
lines_from-line n line rest ws within words significant = grind (arith, common_steps, blank_returns-line, cond-true, raw_lines-line)
