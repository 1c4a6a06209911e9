-- Numbers, line by line. A line is cut off at its LF, and what is said of the whole text is what is said of the rest.
use Rattle.analysis.proofs.Common.{rules, ◌≡◌, ℕ, ◌+◌, ◌<◌, ◌≤◌, Bool, true, false, not, cond, eqb, ⊎_elim, List, [], ◌∷◌, ◌++◌, length, map, take, drop, zero}
use Rattle.analysis.proofs.Common.{get_or, suc, refl, sym, ap, ◌∙◌, subst, arith, None, Some, Result, Ok, Err, append_assoc, list_all, and_parts, both_ways}
use Rattle.analysis.proofs.Common.{cases_Bool, cond-false, cond-true, false_from_ne_true, le-ltb, lt-ltb, map-append, Word, number_of, list_all_at, lines_in}
use Rattle.analysis.proofs.Common.{RefusesNumbers, is_bid_number, words_in, RefusesLine, Memory, IfErr, IsErrAnd, position, position_or_len, onto_first}
use Rattle.analysis.proofs.Common.{slice_split_first, all_words, begins_with_number, bid_number, bid_numbers, faulty_line, BidNumbersFault, NotANumber}

-- ---- a line is cut off

abbrev is_end : ℕ → Bool
is_end b = eqb b 10

pub cut : (text : List ℕ) (end : ℕ) → position is_end text ≡ Some end → lines_in text ≡ take end text ∷ lines_in (drop (end + 1) text)
cut text end e = search (rules, cond-true, lt-ltb, slice_split_first, cond-false, le-ltb)

no_end : (text : List ℕ) → length text ≤ position_or_len is_end text → lines_in text ≡ text ∷ []
no_end [] l = refl
no_end (b ∷ bs) l = ⊎_elim
    (λ (t : is_end b ≡ true).
    search rules)
    (λ (t : is_end b ≡ false).
    let later : position_or_len is_end (b ∷ bs) ≡ 1 + position_or_len is_end bs = ap (λ (x : Bool). cond (not x) (1 + position_or_len is_end bs) 0) t in
    ap (λ (x : Bool). cond x ([] ∷ lines_in bs) (onto_first b (lines_in bs))) t ∙ ap (onto_first b) (no_end bs (omega arith)))
    (cases_Bool (is_end b))

pub last : (text : List ℕ) → position is_end text ≡ None → lines_in text ≡ text ∷ []
last text e = search (rules, cond-true, lt-ltb, no_end)

-- ---- the first word

begins_behind : (ws more : List Word) → list_all is_bid_number ws ≡ true → begins_with_number more ≡ true → begins_with_number (ws ++ more) ≡ true
begins_behind [] more all h = h
begins_behind (w ∷ ws) more all h = (and_parts (is_bid_number w) (list_all is_bid_number ws) all).0

begins_here : (ws more : List Word) → begins_with_number ws ≡ true → begins_with_number (ws ++ more) ≡ true
begins_here [] more h = absurd (both_ways false refl h)
begins_here (w ∷ ws) more h = h

-- ---- the lines so far

-- they were read, so many end, these numbers are in them, and this is the rest
pub record IsRead (text rest : List ℕ) (ends : ℕ) (numbers : List ℕ) : Type 0 where
  pub within : ends + length rest ≤ length text
  pub all : numbers ++ map number_of (all_words (lines_in rest)) ≡ bid_numbers text
  pub faults : faulty_line (ends + 1) (lines_in rest) ≡ faulty_line 1 (lines_in text)
  pub begins : begins_with_number (all_words (lines_in rest)) ≡ true → begins_with_number (all_words (lines_in text)) ≡ true

module _ (text rest : List ℕ) (ends : ℕ) (numbers : List ℕ) (read : IsRead text rest ends numbers) where
  abbrev words : List (List ℕ) → List Word
  words lines = all_words lines

  pub refused : (line : List ℕ) (lines : List (List ℕ)) (fault : BidNumbersFault) → lines_in rest ≡ line ∷ lines
      → RefusesLine line (ends + 1) fault → RefusesNumbers text fault
  refused line lines (NotANumber number) is h = search (rules, cond-false)
  refused line lines Memory is h = search (rules, begins_here)

  pub one_more : (line after more : List ℕ) → lines_in rest ≡ line ∷ lines_in after → length line + length after + 1 ≡ length rest
      → list_all is_bid_number (words_in line) ≡ true → more ≡ numbers ++ map number_of (words_in line) → IsRead text after (ends + 1) more
  one_more line after more is long faultless is_more = let lines : List (List ℕ) = lines_in after in
      record {
        within = omega arith;
        all = search (rules, append_assoc, map-append);
        faults = search (rules, cond-true);
        begins = search (rules, begins_behind);
      }

-- a fault that is handed on
pub came_through : {X F : Type 0} (P : F → Type 0) (answer : Result X F) (came : F) → IsErrAnd answer (λ fault. fault ≡ came) → P came → IfErr answer P
came_through P (Ok x) came is h = absurd is
came_through P (Err fault) came is h = subst P (sym is) h

-- ---- the words of a line

pub number_found : (w : Word) (n : ℕ) → bid_number w ≡ Some n → (is_bid_number w ≡ true) × (n ≡ number_of w)
number_found w n e = search (rules, cond-true, cond-false)

pub no_number : (w : Word) → bid_number w ≡ None → is_bid_number w ≡ false
no_number w e = search (rules, cond-true)

pub fails_at : (ws : List Word) (k : ℕ) (w : Word) → k < length ws → w ≡ get_or ws k w → is_bid_number w ≡ false → list_all is_bid_number ws ≡ false
fails_at ws k w l is f = false_from_ne_true (list_all is_bid_number ws) (λ t. both_ways (is_bid_number w) f (list_all_at is_bid_number ws t w (k, l, sym is)))

pub begins_at : (ws : List Word) (k : ℕ) (w : Word) → k < length ws → w ≡ get_or ws k w → list_all is_bid_number (take k ws) ≡ true
    → is_bid_number w ≡ true → begins_with_number ws ≡ true
begins_at [] k w l is all t = absurd (omega arith)
begins_at (x ∷ xs) zero w l is all t = ap is_bid_number (sym is) ∙ t
begins_at (x ∷ xs) (suc k) w l is all t = (and_parts (is_bid_number x) (list_all is_bid_number (take k xs)) all).0
