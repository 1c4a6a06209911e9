-- From bytes to lines of words: the scanner's states over the bytes of a line, and over all lines. The idea: at each state one
-- statement on the rest of the line, by induction on the rest, general in what has come of the word.
use Rattle.cats_text.proofs.Common.{rules, ◌≡◌, ℕ, true, false, cond, eqb, List, [], ◌∷◌, ◌++◌, refl, sym, ap, ◌∙◌, Ok, Err, append-nil, append_assoc, arith}
use Rattle.cats_text.proofs.Common.{AllByRecursion, Word, is_blank, begins_word, with_letter, words_with, line_words, is_significant, fault_at, Progress}
use Rattle.cats_text.proofs.Common.{Reading, word_read, word_from, summary, State, Scan, and_then, scan, byte_step, blank_step, letter_mode, Mode, Start}
use Rattle.cats_text.proofs.Common.{Blank, Comment, Between, Inside, common_steps}
use Rattle.cats_text.specs.declared.word.Word.{Word as Kept}
use Rattle.cats_text.proofs.Words.Kept.{summary-push}
use Rattle.cats_text.proofs.Parsing.WholeLines.{words_read, reading_then}

-- ---- steps one after another

pub and_then-assoc : (r : Scan) (f g : State → Scan) → and_then (and_then r f) g ≡ and_then r (λ s. and_then (f s) g)
and_then-assoc (Ok s) f g = refl
and_then-assoc (Err e) f g = refl

scan_step : (r : Scan) (xs ys : List ℕ) → ((t : State) → scan t (xs ++ ys) ≡ and_then (scan t xs) (λ u. scan u ys))
    → and_then r (λ t. scan t (xs ++ ys)) ≡ and_then (and_then r (λ t. scan t xs)) (λ t. scan t ys)
scan_step (Ok t) xs ys h = h t
scan_step (Err e) xs ys h = refl

pub scan-append : (s : State) (xs ys : List ℕ) → scan s (xs ++ ys) ≡ and_then (scan s xs) (λ t. scan t ys)
scan-append s [] ys = refl
scan-append s (x ∷ xs) ys = scan_step (byte_step s x) xs ys (λ t. scan-append t xs ys)

-- ---- the words of a line

-- neither LF nor blank
abbrev pub IsLetter : ℕ → Type 0
IsLetter b = (eqb b 10 ≡ false) × (is_blank b ≡ false)

abbrev pub IsNoEnd : ℕ → Type 0
IsNoEnd b = eqb b 10 ≡ false

-- a letter before a letter, and before what begins no word
words_join : (a b : ℕ) (bs : List ℕ) (ws : List Word) → is_blank a ≡ false → is_blank b ≡ false → words_with a (b ∷ bs) ws ≡ with_letter a ws
words_join a b bs ws h k = rw (h, k) refl

words_split : (a b : ℕ) (bs : List ℕ) (ws : List Word) → is_blank a ≡ false → is_blank b ≡ true → words_with a (b ∷ bs) ws ≡ (a ∷ []) ∷ ws
words_split a b bs ws h k = rw (h, k) refl

pub words_blank : (b : ℕ) (bs : List ℕ) → is_blank b ≡ true → line_words (b ∷ bs) ≡ line_words bs
words_blank b bs e = rw e refl

-- a word that ends with the line
pub words_last : (a : ℕ) (w : List ℕ) → AllByRecursion (λ b. is_blank b ≡ false) (a ∷ w) → line_words (a ∷ w) ≡ (a ∷ w) ∷ []
words_last a [] h = rw h.0 refl
words_last a (b ∷ w) h = words_join a b w (line_words (b ∷ w)) h.0 h.1.0 ∙ ap (with_letter a) (words_last b w h.1)

-- a word that a blank ends
pub words_next : (a : ℕ) (w : List ℕ) (b : ℕ) (bs : List ℕ) → AllByRecursion (λ c. is_blank c ≡ false) (a ∷ w) → is_blank b ≡ true
    → line_words ((a ∷ w) ++ b ∷ bs) ≡ (a ∷ w) ∷ line_words bs
words_next a [] b bs h e = words_split a b bs (line_words (b ∷ bs)) h.0 e ∙ ap (λ ws. (a ∷ []) ∷ ws) (words_blank b bs e)
words_next a (c ∷ w) b bs h e = words_join a c (w ++ b ∷ bs) (line_words ((c ∷ w) ++ b ∷ bs)) h.0 h.1.0 ∙ ap (with_letter a) (words_next c w b bs h.1 e)

blank_free_push : (w : List ℕ) (b : ℕ) → AllByRecursion (λ c. is_blank c ≡ false) w → is_blank b ≡ false
    → AllByRecursion (λ c. is_blank c ≡ false) (w ++ b ∷ [])
blank_free_push [] b h e = (e, tt)
blank_free_push (a ∷ w) b h e = (h.0, blank_free_push w b h.1 e)

-- ---- from a word on

abbrev pub standing : Mode → ℕ → Progress → State
standing m n p = record { mode = m; line = n; progress = p }

abbrev pub lifted : ℕ → Mode → Reading → Scan
lifted n m (Ok p) = Ok (standing m n p)
lifted n m (Err kind) = Err (fault_at n kind)

-- the bytes, and after them the end of the word
abbrev pub to_blank : State → List ℕ → Scan
to_blank s bytes = and_then (scan s bytes) blank_step

pub byte_letter : (s : State) (b : ℕ) → eqb b 10 ≡ false → is_blank b ≡ false → byte_step s b ≡ Ok (record s { mode = letter_mode s.mode b })
byte_letter s b e h = rw (e, h) refl

pub byte_blank : (s : State) (b : ℕ) → eqb b 10 ≡ false → is_blank b ≡ true → byte_step s b ≡ blank_step s
byte_blank s b e h = rw (e, h) refl

reading_then_ok : (r : Reading) → reading_then r (λ p. Ok p) ≡ r
reading_then_ok (Ok p) = refl
reading_then_ok (Err kind) = refl

-- a blank behind a word, and the rest of the line
behind_word : (n : ℕ) (r : Reading) (bs : List ℕ) (rest : Progress → Reading)
    → ((q : Progress) → to_blank (standing Between n q) bs ≡ lifted n Between (rest q))
    → and_then (and_then (lifted n Between r) (λ t. scan t bs)) blank_step ≡ lifted n Between (reading_then r rest)
behind_word n (Ok q) bs rest h = h q
behind_word n (Err kind) bs rest h = refl

lifted_word : (s : State) (w : Kept) → s.mode ≡ Inside w → blank_step s ≡ lifted s.line Between (word_read s.progress w)
lifted_word s w e = grind (arith, common_steps)

-- behind a word, or in one of which this has come
abbrev pub word_mode : Word → Mode
word_mode [] = Between
word_mode (a ∷ w) = Inside (summary (a ∷ w))

pub from_word : (n : ℕ) (p : Progress) (w bytes : List ℕ) → AllByRecursion (λ c. is_blank c ≡ false) w → AllByRecursion IsNoEnd bytes
    → to_blank (standing (word_mode w) n p) bytes ≡ lifted n Between (words_read (line_words (w ++ bytes)) p)
from_word n p [] [] f h = refl
from_word n p (a ∷ w) [] f h = search (rules, lifted_word, reading_then_ok, words_read, append-nil, words_last)
from_word n p [] (b ∷ bs) f h =
    elim (is_blank b) as (λ t. is_blank b ≡ t → to_blank (standing Between n p) (b ∷ bs) ≡ lifted n Between (words_read (line_words (b ∷ bs)) p)) [
      | true ↦ search (rules, byte_blank, words_read, words_blank, (from_word n p [] bs tt h.1))
      | false ↦ λ (e : is_blank b ≡ false). search (rules, byte_letter, (from_word n p (b ∷ []) bs (e, tt) h.1))
    ] refl
from_word n p (a ∷ w) (b ∷ bs) f h = elim (is_blank b) as (λ t. is_blank b ≡ t → to_blank (standing (Inside (summary (a ∷ w))) n p) (b ∷ bs)
    ≡ lifted n Between (words_read (line_words ((a ∷ w) ++ b ∷ bs)) p)) [
      | true ↦ λ (e : is_blank b ≡ true). ap (λ r. and_then (and_then r (λ t. scan t bs)) blank_step)
          (byte_blank (standing (Inside (summary (a ∷ w))) n p) b h.0 e ∙ lifted_word (standing (Inside (summary (a ∷ w))) n p) (summary (a ∷ w)) refl)
          ∙ behind_word n (word_read p (summary (a ∷ w))) bs (words_read (line_words bs)) (λ q. from_word n q [] bs tt h.1)
          ∙ ap (λ ws. lifted n Between (words_read ws p)) (sym (words_next a w b bs f e))
      | false ↦ λ (e : is_blank b ≡ false). let again = from_word n p ((a ∷ w) ++ b ∷ []) bs (blank_free_push (a ∷ w) b f e) h.1 in
          search (rules, byte_letter, summary-push, blank_free_push, words_read, append_assoc, again)
    ] refl

-- ---- from the beginning of a line on

pub in_comment : (n : ℕ) (p : Progress) (bytes : List ℕ) → AllByRecursion IsNoEnd bytes → scan (standing Comment n p) bytes ≡ Ok (standing Comment n p)
in_comment n p [] h = refl
in_comment n p (b ∷ bs) h = grind (arith, common_steps, byte_blank, byte_letter, (in_comment n p bs h.1))

-- the mode behind a line that has no words to judge
abbrev pub quiet : List Word → Mode
quiet [] = Blank
quiet (w ∷ ws) = Comment

abbrev pub fresh_outcome : ℕ → List Word → Progress → Scan
fresh_outcome n ws p = cond (is_significant ws) (lifted n Between (words_read ws p)) (Ok (standing (quiet ws) n p))

-- the words of a line that begins with a letter
pub first_of_words : (b : ℕ) (bs : List ℕ) → is_blank b ≡ false → (t : List ℕ) × (ts : List Word) × (line_words (b ∷ bs) ≡ (b ∷ t) ∷ ts)
first_of_words b bs e =
    elim (begins_word bs) as (λ q. (t : List ℕ) × (ts : List Word)
    × (cond (is_blank b) (line_words bs) (cond q (with_letter b (line_words bs)) ((b ∷ []) ∷ line_words bs)) ≡ (b ∷ t) ∷ ts)) [
      | true ↦ joined (line_words bs)
      | false ↦ ([], line_words bs, rw e refl)
    ]
  where
    joined : (ws : List Word) → (t : List ℕ) × (ts : List Word) × (cond (is_blank b) (line_words bs) (with_letter b ws) ≡ (b ∷ t) ∷ ts)
    joined [] = ([], [], rw e refl)
    joined (w ∷ ws) = (w, ws, rw e refl)

fresh_comment : (n : ℕ) (p : Progress) (b : ℕ) (bs : List ℕ) → is_blank b ≡ false → eqb b 37 ≡ true
    → fresh_outcome n (line_words (b ∷ bs)) p ≡ Ok (standing Comment n p)
fresh_comment n p b bs e c = search (rules, first_of_words, words_read)

fresh_word : (n : ℕ) (p : Progress) (b : ℕ) (bs : List ℕ) → is_blank b ≡ false → eqb b 37 ≡ false
    → fresh_outcome n (line_words (b ∷ bs)) p ≡ lifted n Between (words_read (line_words (b ∷ bs)) p)
fresh_word n p b bs e c = search (rules, first_of_words, words_read)

-- a letter that begins a line
from_letter : (m : Mode) (n : ℕ) (p : Progress) (b : ℕ) (bs : List ℕ) → AllByRecursion IsNoEnd (b ∷ bs) → is_blank b ≡ false
    → letter_mode m b ≡ cond (eqb b 37) Comment (Inside (word_from b)) → to_blank (standing m n p) (b ∷ bs) ≡ fresh_outcome n (line_words (b ∷ bs)) p
from_letter m n p b bs h e mode = ap (λ r. and_then (and_then r (λ t. scan t bs)) blank_step) (byte_letter (standing m n p) b h.0 e)
    ∙ ap (λ k. to_blank (standing k n p) bs) mode
    ∙ (elim (eqb b 37) as (λ c. eqb b 37 ≡ c → to_blank (standing (cond c Comment (Inside (word_from b))) n p) bs ≡ fresh_outcome n (line_words (b ∷ bs)) p) [
      | true ↦ λ (c : eqb b 37 ≡ true). ap (λ r. and_then r blank_step) (in_comment n p bs h.1) ∙ sym (fresh_comment n p b bs e c)
      | false ↦ λ (c : eqb b 37 ≡ false). from_word n p (b ∷ []) bs (e, tt) h.1 ∙ sym (fresh_word n p b bs e c)
    ] refl)

pub from_blank : (n : ℕ) (p : Progress) (bytes : List ℕ) → AllByRecursion IsNoEnd bytes
    → to_blank (standing Blank n p) bytes ≡ fresh_outcome n (line_words bytes) p
from_blank n p [] h = refl
from_blank n p (b ∷ bs) h = elim (is_blank b) as (λ t. is_blank b ≡ t → to_blank (standing Blank n p) (b ∷ bs) ≡ fresh_outcome n (line_words (b ∷ bs)) p) [
  | true ↦ search (rules, byte_blank, words_blank, (from_blank n p bs h.1))
  | false ↦ λ (e : is_blank b ≡ false). from_letter Blank n p b bs h e refl
] refl

pub from_start : (n : ℕ) (p : Progress) (bytes : List ℕ) → AllByRecursion IsNoEnd bytes
    → to_blank (standing Start n p) bytes ≡ fresh_outcome n (line_words bytes) p
from_start n p [] h = refl
from_start n p (b ∷ bs) h = elim (is_blank b) as (λ t. is_blank b ≡ t → to_blank (standing Start n p) (b ∷ bs) ≡ fresh_outcome n (line_words (b ∷ bs)) p) [
  | true ↦ search (rules, byte_blank, from_blank, words_blank)
  | false ↦ λ (e : is_blank b ≡ false). from_letter Start n p b bs h e refl
] refl
