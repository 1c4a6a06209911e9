-- The first word of a line and the first line of a text, each cut where a search for a byte says. The idea: the bytes before
-- the first one that passes a test are all of one sort, and the definitions go over such bytes at one go.
use Rattle.cats_text.proofs.Common.{rules, ◌≡◌, ℕ, zero, suc, ◌+◌, ◌<◌, ◌≤◌, min, Bool, true, false, not, ◌&&◌, cond, eqb, ltb, List, [], ◌∷◌, ◌++◌, length}
use Rattle.cats_text.proofs.Common.{take, ap, drop, get_or, refl, sym, ap₂, ◌∙◌, subst, arith, Some, None, ◌⊎◌, ⊎_elim, inl, drop-cons, append-nil}
use Rattle.cats_text.proofs.Common.{length-append, both_ways, eqb-true, ltb-true, ltb-false, cases_lt, take-append-drop, drop_all, take_all, length-drop}
use Rattle.cats_text.proofs.Common.{length-take, fails_before_first, passes_at_first, AllByRecursion, position, position_or_len, unwrap_or, is_blank, raw_lines}
use Rattle.cats_text.proofs.Common.{with_byte, line_ends, blank_returns, line_byte, line_words, IsFirstWord, IsFirstLine, without_return, common_steps}
use Rattle.cats_text.proofs.Common.{◌-◌, IsLeadingToken, IsPlain}
use Rattle.cats_text.specs.Internal.Places.{IsNextWord}
use Rattle.cats_text.specs.declared.word.Word.{Word as Kept}
use Rattle.cats_text.proofs.Scanning.Lines.{IsNoEnd, words_blank, words_last, words_next}
use Rattle.cats_text.proofs.Texts.FirstFaults.{words_trailing}

-- ---- where a byte is found

-- the first that passes, or the end
pub record IsFound (test : ℕ → Bool) (xs : List ℕ) (n : ℕ) : Type 0 where
  pub within : n ≤ length xs
  pub before : AllByRecursion (λ b. test b ≡ false) (take n xs)
  pub passes : n < length xs → test (get_or xs n 0) ≡ true

all_taken : (test : ℕ → Bool) (n : ℕ) (xs : List ℕ) → n ≤ length xs → ((k : ℕ) → k < n → test (get_or xs k 0) ≡ false)
    → AllByRecursion (λ b. test b ≡ false) (take n xs)
all_taken test zero xs l h = tt
all_taken test (suc n) [] l h = absurd (omega arith)
all_taken test (suc n) (x ∷ xs) l h = (h 0 (omega arith), all_taken test n xs (omega arith) (λ k m. h (suc k) (omega arith)))

pub found_at : (test : ℕ → Bool) (xs : List ℕ) (n : ℕ) → n ≡ unwrap_or (position test xs) (length xs) → IsFound test xs n
found_at test xs n e = elim (ltb (position_or_len test xs) (length xs)) as
    (λ t. ltb (position_or_len test xs) (length xs) ≡ t → n ≡ unwrap_or (cond t (Some (position_or_len test xs)) None) (length xs) → IsFound test xs n) [
      | true ↦ λ (l : ltb (position_or_len test xs) (length xs) ≡ true) (is : n ≡ position_or_len test xs).
          let within : position_or_len test xs < length xs = ltb-true (position_or_len test xs) (length xs) l in
          record {
            within = omega arith;
            before = all_taken test n xs (omega arith) (λ k m. fails_before_first test xs k 0 (omega arith));
            passes = λ m. ap (λ i. test (get_or xs i 0)) is ∙ passes_at_first test xs 0 within;
          }
      | false ↦ λ (l : ltb (position_or_len test xs) (length xs) ≡ false) (is : n ≡ length xs).
          let beyond : length xs ≤ position_or_len test xs = ltb-false (position_or_len test xs) (length xs) l in
          record {
            within = omega arith;
            before = all_taken test n xs (omega arith) (λ k m. fails_before_first test xs k 0 (omega arith));
            passes = λ m. absurd (omega arith);
          }
    ] refl e

-- ---- the first word

not_true : (b : Bool) → not b ≡ true → b ≡ false
not_true true h = absurd (both_ways false refl h)
not_true false h = refl

not_false : (b : Bool) → not b ≡ false → b ≡ true
not_false true h = refl
not_false false h = absurd (both_ways true h refl)

-- blanks at the start are no words
behind_blanks : (n : ℕ) (xs : List ℕ) → AllByRecursion (λ b. not (is_blank b) ≡ false) (take n xs) → line_words xs ≡ line_words (drop n xs)
behind_blanks (suc n) (x ∷ xs) h = words_blank x xs (not_false (is_blank x) h.0) ∙ behind_blanks n xs h.1
behind_blanks _ _ h = refl

pub no_word : (xs : List ℕ) (n : ℕ) → IsFound (λ b. not (is_blank b)) xs n → n ≡ length xs → line_words xs ≡ []
no_word xs n found e = behind_blanks n xs found.before ∙ ap line_words (drop_all n xs (omega arith))

-- letters at the start, up to a blank or the end, are the first word
leading : (w rest : List ℕ) → 0 < length w → AllByRecursion (λ b. is_blank b ≡ false) w → (0 < length rest → is_blank (get_or rest 0 0) ≡ true)
    → line_words (w ++ rest) ≡ w ∷ line_words rest
leading [] rest some letters ends = absurd (omega arith)
leading (a ∷ w) [] some letters ends = ap line_words (append-nil (a ∷ w)) ∙ words_last a w letters
leading (a ∷ w) (b ∷ bs) some letters ends = grind (arith, common_steps, words_blank, words_next)

first_kept : (x : ℕ) (xs : List ℕ) (n : ℕ) → is_blank x ≡ false → IsFound is_blank (x ∷ xs) n → 0 < n
first_kept x xs zero letter found = absurd (both_ways (is_blank x) letter (found.passes (omega arith)))
first_kept x xs (suc n) letter found = omega arith

word_of_letters : (ahead : List ℕ) (n : ℕ) → 0 < length ahead → is_blank (get_or ahead 0 0) ≡ false → IsFound is_blank ahead n
    → line_words ahead ≡ take n ahead ∷ line_words (drop n ahead)
word_of_letters [] n some letter found = absurd (omega arith)
word_of_letters (x ∷ xs) n some letter found =
    let kept : 0 < n = first_kept x xs n letter found in
    let within = found.within in
    sym (ap line_words (take-append-drop n (x ∷ xs))) ∙ leading (take n (x ∷ xs)) (drop n (x ∷ xs)) (omega (arith, length-take n (x ∷ xs))) found.before
    (λ some. ap is_blank (get-drop (x ∷ xs) n) ∙ found.passes (omega (arith, length-drop n (x ∷ xs))))
  where
    get-drop : (ys : List ℕ) (k : ℕ) → get_or (drop k ys) 0 0 ≡ get_or ys k 0
    get-drop ys zero = refl
    get-drop [] (suc k) = refl
    get-drop (y ∷ ys) (suc k) = get-drop ys k

pub first_word : (line : List ℕ) (start end : ℕ) → IsFound (λ b. not (is_blank b)) line start → start < length line → IsFound is_blank (drop start line) end
    → IsFirstWord line (take end (drop start line)) (drop end (drop start line))
first_word line start end blanks some letters = grind (arith, common_steps, behind_blanks, drop-cons, first_kept, length-drop, not_true, word_of_letters)

-- ---- the leading token

letters_of : (ds : List ℕ) → AllByRecursion IsPlain ds → AllByRecursion (λ b. is_blank b ≡ false) ds
letters_of [] h = tt
letters_of (d ∷ ds) h = (letter_of d h.0, letters_of ds h.1)
  where
    letter_of : (b : ℕ) → IsPlain b → is_blank b ≡ false
    letter_of b plain = let above = plain.0 in grind (arith, common_steps)

letter_at : (xs : List ℕ) (n k : ℕ) → k < n → n ≤ length xs → AllByRecursion (λ b. is_blank b ≡ false) (take n xs) → is_blank (get_or xs k 0) ≡ false
letter_at [] n k l w h = absurd (omega arith)
letter_at (x ∷ xs) zero k l w h = absurd (omega arith)
letter_at (x ∷ xs) (suc n) zero l w h = h.0
letter_at (x ∷ xs) (suc n) (suc k) l w h = letter_at xs n k (omega arith) (omega arith) h.1

-- a token is the first word if a blank is its last byte
pub token_word : (line : List ℕ) (word : Kept) (taken : ℕ) → IsLeadingToken line word taken → is_blank (get_or line (taken - 1) 0) ≡ true
    → IsNextWord line (take (taken - 1) line) (drop taken line) word
token_word line word taken token blank =
    elim (eqb (get_or line token.count 0) 10) as
    (λ t. taken ≡ token.count + cond t 0 1 → IsNextWord line (take (taken - 1) line) (drop taken line) word) [
      | true ↦ λ (is : taken ≡ token.count + 0).
          absurd (both_ways (is_blank (get_or line (taken - 1) 0))
          (letter_at line token.count (taken - 1) (omega (arith, is, some)) token.kept.within letters) blank)
      | false ↦ λ (is : taken ≡ token.count + 1).
          let before : taken - 1 ≡ token.count = omega (arith, is) in
          subst (λ (n : ℕ). IsNextWord line (take (taken - 1) line) (drop n line) word) (sym is)
          (subst (λ (n : ℕ). IsNextWord line (take n line) (drop (token.count + 1) line) word) (sym before)
          (at_count (subst (λ (n : ℕ). is_blank (get_or line n 0) ≡ true) before blank)))
    ] token.is
  where
    some : 0 < token.count
    some = token.kept.some

    letters : AllByRecursion (λ b. is_blank b ≡ false) (take token.count line)
    letters = letters_of (take token.count line) token.kept.plain

    begins : IsFound (λ b. not (is_blank b)) line 0
    begins = record {
      within = omega arith;
      before = tt;
      passes = λ m. ap not (letter_at line token.count 0 some token.kept.within letters);
    }

    at_count : is_blank (get_or line token.count 0) ≡ true → IsNextWord line (take token.count line) (drop (token.count + 1) line) word
    at_count ends =
        let found : IsFound is_blank line token.count = record { within = token.kept.within; before = letters; passes = λ m. ends } in
        let first = first_word line 0 token.count begins (omega (arith, token.within)) found in
        let behind : drop token.count line ≡ get_or line token.count 0 ∷ drop (suc token.count) line = drop-cons line token.count 0 token.within in
        let next : suc token.count ≡ token.count + 1 = omega arith in
        record {
          first = record {
            words = first.words ∙ ap (λ ws. take token.count line ∷ ws) (ap line_words behind
                ∙ words_blank (get_or line token.count 0) (drop (suc token.count) line) ends ∙ ap (λ (n : ℕ). line_words (drop n line)) next);
            within = let count = token.within in omega (arith, length-drop (token.count + 1) line);
          };
          is = token.kept.word;
        }

-- ---- the first line

returns_cut : (xs bs : List ℕ) → blank_returns (xs ++ 10 ∷ bs) ≡ blank_returns xs ++ 10 ∷ blank_returns bs
returns_cut (a ∷ b ∷ xs) bs = ap (λ ds. line_byte a (b ∷ xs) ∷ ds) (returns_cut (b ∷ xs) bs)
returns_cut _ bs = refl

byte_no_end : (b : ℕ) (bs : List ℕ) → eqb b 10 ≡ false → eqb (line_byte b bs) 10 ≡ false
byte_no_end b bs h = elim (eqb b 13 && line_ends bs) as (λ t. eqb (cond t 32 b) 10 ≡ false) [ true ↦ refl | false ↦ h ]

returns_no_end : (xs : List ℕ) → AllByRecursion IsNoEnd xs → AllByRecursion IsNoEnd (blank_returns xs)
returns_no_end [] h = tt
returns_no_end (b ∷ bs) h = (byte_no_end b bs h.0, returns_no_end bs h.1)

lines_cut : (xs bs : List ℕ) → AllByRecursion IsNoEnd xs → raw_lines (xs ++ 10 ∷ bs) ≡ record { bytes = xs; ended = true } ∷ raw_lines bs
lines_cut [] bs h = refl
lines_cut (x ∷ xs) bs h = rw h.0 (ap (with_byte x) (lines_cut xs bs h.1))

lines_last : (x : ℕ) (xs : List ℕ) → AllByRecursion IsNoEnd (x ∷ xs) → raw_lines (x ∷ xs) ≡ record { bytes = x ∷ xs; ended = false } ∷ []
lines_last x [] h = rw h.0 refl
lines_last x (y ∷ ys) h = rw h.0 (ap (with_byte x) (lines_last y ys h.1))

-- a CR at the end of a line is a blank, and no other is
returns_of_line : (xs : List ℕ) → AllByRecursion IsNoEnd xs → (blank_returns xs ≡ without_return xs) ⊎ (blank_returns xs ≡ without_return xs ++ 32 ∷ [])
returns_of_line [] h = inl refl
returns_of_line (b ∷ []) h = grind (arith, common_steps)
returns_of_line (b ∷ c ∷ cs) h = grind (arith, common_steps, (returns_of_line (c ∷ cs) h.1))

words_of_line : (xs : List ℕ) → AllByRecursion IsNoEnd xs → line_words (blank_returns xs) ≡ line_words (without_return xs)
words_of_line xs h = grind (arith, common_steps, returns_of_line, words_trailing)

pub without_last : (xs : List ℕ) → without_return (xs ++ 13 ∷ []) ≡ xs
without_last (x ∷ y ∷ ys) = ap (λ ds. x ∷ ds) (without_last (y ∷ ys))
without_last _ = refl

pub with_last : (xs : List ℕ) (b : ℕ) → eqb b 13 ≡ false → without_return (xs ++ b ∷ []) ≡ xs ++ b ∷ []
with_last [] b e = ap (λ t. cond t [] (b ∷ [])) e
with_last (x ∷ []) b e = ap (λ ds. x ∷ ds) (with_last [] b e)
with_last (x ∷ y ∷ ys) b e = ap (λ ds. x ∷ ds) (with_last (y ∷ ys) b e)

pub line_to_end : (xs : List ℕ) → 0 < length xs → AllByRecursion IsNoEnd xs → IsFirstLine xs (without_return xs) []
line_to_end [] some h = absurd (omega arith)
line_to_end (x ∷ xs) some h = search (rules, lines_last, returns_no_end, words_of_line)

pub line_to_feed : (xs bs : List ℕ) → AllByRecursion IsNoEnd xs → IsFirstLine (xs ++ 10 ∷ bs) (without_return xs) bs
line_to_feed xs bs h = record {
  raw = record { bytes = blank_returns xs; ended = true };
  lines = ap raw_lines (returns_cut xs bs) ∙ lines_cut (blank_returns xs) (blank_returns bs) (returns_no_end xs h);
  words = words_of_line xs h;
  within = omega (arith, length-append xs (10 ∷ bs));
}

pub first_line : (text : List ℕ) (end next : ℕ) → 0 < length text → IsFound (λ b. eqb b 10) text end → next ≡ min (length text) (end + 1)
    → IsFirstLine text (without_return (take end text)) (drop next text)
first_line text end next some found is = ⊎_elim (λ (l : end < length text).
    let behind : suc end ≡ next = omega (arith, is) in
    let cut : text ≡ take end text ++ 10 ∷ drop next text = sym (take-append-drop end text) ∙ ap (λ ds. take end text ++ ds) (drop-cons text end 0 l
    ∙ ap₂ (λ (b : ℕ) (k : ℕ). b ∷ drop k text) (eqb-true (get_or text end 0) 10 (found.passes l)) behind) in
    subst (λ t. IsFirstLine t (without_return (take end text)) (drop next text)) (sym cut) (line_to_feed (take end text) (drop next text) found.before))
    (search (rules, take_all, drop_all, line_to_end, IsNoEnd)) (cases_lt end (length text))
