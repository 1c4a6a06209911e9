-- The scanner's answer over a text is the definitions' first fault, and over the bytes so far the fault that is complete.
use Rattle.cats_text.proofs.Common.{rules, ◌≡◌, ℕ, suc, ◌+◌, ◌<◌, Bool, true, false, ◌||◌, cond, eqb, List, [], ◌∷◌, ◌++◌, length, filter, refl, sym, ap, ◌∙◌}
use Rattle.cats_text.proofs.Common.{subst, arith, Some, None, Ok, Err, append-nil, both_ways, AllByRecursion, Word, RawLine, Line, raw_lines, line_words}
use Rattle.cats_text.proofs.Common.{words_with, is_significant, is_blank, numbered, significant_lines, blank_returns, line_count, lines_with, with_byte}
use Rattle.cats_text.proofs.Common.{significant_words, lines_fault, first_fault, is_line_due, is_final, Progress, start, Scan, first_state, and_then, scan}
use Rattle.cats_text.proofs.Common.{byte_step, blank_step, end_step, PlainBid, Start, common_steps}
use Rattle.cats_text.proofs.Scanning.Lines.{scan-append, IsNoEnd, standing, fresh_outcome, lifted, quiet, from_start, byte_blank, words_blank}
use Rattle.cats_text.proofs.Parsing.WholeLines.{words_read, on_line, reading_then, Scanned, scanned_then, lines_scan, lines_step, LinesAre, IsLine, IsWord}
use Rattle.cats_text.proofs.Parsing.WholeLines.{AreEndedButLast, neither}
use Rattle.cats_text.proofs.Parsing.States.{IsAt}
use Rattle.cats_text.proofs.Scanning.AllBytes.{text_of, text_of-lines, AreRaw, AreRaw-lines, tail_raw, raw_scan, whole_text, outcome, line_outcome}
use Rattle.cats_text.proofs.Scanning.AllBytes.{open_outcome, line_and_rest, outcome_from}

-- ---- the significant lines alone

abbrev kept : List Line → List Line
kept ls = filter (λ l. is_significant l.words) ls

last_raw : (l : RawLine) (ls : List RawLine) → AreRaw (l ∷ ls) → l.ended ≡ false → ls ≡ []
last_raw l [] r e = refl
last_raw l (m ∷ ls) r e = absurd (both_ways l.ended e r.1)

scanned_same : (r : Scanned) (f g : Progress → Scanned) → ((q : Progress) → f q ≡ g q) → scanned_then r f ≡ scanned_then r g
scanned_same (Ok q) f g h = h q
scanned_same (Err e) f g h = refl

-- one line and the rest, the rest being known
raw_line : (whole : Bool) (n : ℕ) (l : RawLine) (ls : List RawLine) (p : Progress) (count : ℕ) → AreRaw (l ∷ ls)
    → ((q : Progress) → raw_scan whole (suc n) ls q ≡ lines_scan whole count (kept (numbered (suc n) ls)) q)
    → raw_scan whole n (l ∷ ls) p ≡ lines_scan whole count (kept (numbered n (l ∷ ls))) p
raw_line whole n l ls p count r again =
    grind (arith, common_steps, last_raw, lines_scan, neither, on_line, raw_scan, reading_then, scanned_same, scanned_then, words_read)

-- lines without words to judge do nothing
pub raw_scan-lines : (whole : Bool) (n : ℕ) (ls : List RawLine) (p : Progress) (count : ℕ) → AreRaw ls → (whole ≡ true → suc count ≡ n + length ls)
    → raw_scan whole n ls p ≡ lines_scan whole count (kept (numbered n ls)) p
raw_scan-lines false n [] p count r c = refl
raw_scan-lines true n [] p count r c = grind (arith, common_steps)
raw_scan-lines whole n (l ∷ ls) p count r c =
    raw_line whole n l ls p count r (λ q. raw_scan-lines whole (suc n) ls q count (tail_raw l ls r).1 (λ w. let e : suc count ≡ n + length (l ∷ ls) = c w in
    omega arith))

-- ---- they are lines

pub words_are : (bytes : List ℕ) → AllByRecursion IsWord (line_words bytes)
words_are [] = tt
words_are (b ∷ bs) = search (rules, IsWord, (words_are bs))

pub significant_pos : (ws : List Word) → is_significant ws ≡ true → 0 < length ws
significant_pos [] e = absurd (both_ways false refl e)
significant_pos (w ∷ ws) e = omega arith

pub kept_are : (n : ℕ) (ls : List RawLine) → AllByRecursion IsLine (kept (numbered n ls))
kept_are n [] = tt
kept_are n (l ∷ ls) = grind (arith, common_steps, significant_pos, words_are, (kept_are (suc n) ls))

-- a line before others, which has its LF or is the last
ends_prefix : (l : Line) (ls : List Line) → (0 < length ls → l.ended ≡ true) → AreEndedButLast ls → AreEndedButLast (l ∷ ls)
ends_prefix l [] h e = tt
ends_prefix l (m ∷ ls) h e = (h (omega arith), e)

ended_or_last : (l : RawLine) (ls : List RawLine) (n : ℕ) → AreRaw (l ∷ ls) → 0 < length (kept (numbered n ls)) → l.ended ≡ true
ended_or_last l [] n r h = absurd (let no : 0 < 0 = h in omega arith)
ended_or_last l (m ∷ ls) n r h = r.1

pub kept_ends : (n : ℕ) (ls : List RawLine) → AreRaw ls → AreEndedButLast (kept (numbered n ls))
kept_ends n [] r = tt
kept_ends n (l ∷ ls) r = grind (arith, common_steps, ended_or_last, ends_prefix, tail_raw, (kept_ends (suc n) ls (tail_raw l ls r).1))

-- ---- before the first line

pub at_start : (k : PlainBid → PlainBid) → IsAt [] [] (start k)
at_start k = grind (arith, common_steps)

-- the answer for a whole text
abbrev pub WholeIs : List ℕ → Scanned → Type 0
WholeIs text (Ok q) = (first_fault text ≡ None) × IsAt (significant_words text) [] q × (is_line_due (significant_words text) ≡ false)
WholeIs text (Err e) = first_fault text ≡ Some e

pub whole_fault : (k : PlainBid → PlainBid) (text : List ℕ) → WholeIs text (outcome (and_then (scan (first_state k) (blank_returns text)) end_step))
whole_fault k text = subst (WholeIs text) (sym (ap (λ bs. outcome (and_then (scan (first_state k) bs) end_step)) (sym (text_of-lines (blank_returns text)))
    ∙ whole_text 1 (start k) (raw_lines (blank_returns text)) (AreRaw-lines (blank_returns text))
    ∙ raw_scan-lines true 1 (raw_lines (blank_returns text)) (start k) (line_count text) (AreRaw-lines (blank_returns text)) (λ e. omega arith)))
    (search (rules, answer, lines_step, kept_are, kept_ends, AreRaw-lines, at_start))
  where
    answer : (r : Scanned) → LinesAre true (line_count text) [] (significant_lines text) r → WholeIs text r
    answer (Ok q) h = (h.0, (h.1 refl).0, (h.1 refl).1)
    answer (Err e) h = h

-- ---- the bytes so far

-- the last line, where it lacks its LF, ends with a blank
abbrev EndsBlank : List RawLine → Type 0
EndsBlank [] = Unit {0}
EndsBlank (l ∷ []) = l.ended ≡ false → (bs : List ℕ) × (b : ℕ) × (l.bytes ≡ bs ++ b ∷ []) × (is_blank b ≡ true)
EndsBlank (l ∷ m ∷ ls) = EndsBlank (m ∷ ls)

-- the last byte is final
abbrev pub EndsFinal : List ℕ → Type 0
EndsFinal [] = Unit {0}
EndsFinal (b ∷ []) = is_final b ≡ true
EndsFinal (b ∷ c ∷ cs) = EndsFinal (c ∷ cs)

blank_prefix : (l : RawLine) (ls : List RawLine) → l.ended ≡ true → EndsBlank ls → EndsBlank (l ∷ ls)
blank_prefix l [] e h = λ f. absurd (both_ways l.ended f e)
blank_prefix l (m ∷ ls) e h = h

blank_with : (b : ℕ) (l : RawLine) (ls : List RawLine) → EndsBlank (l ∷ ls) → EndsBlank (record { bytes = b ∷ l.bytes; ended = l.ended } ∷ ls)
blank_with b l [] h = λ e. let k = h e in (b ∷ k.0, k.1, ap (λ ds. b ∷ ds) k.2, k.3)
blank_with b l (m ∷ ls) h = h

blank_of_final : (b : ℕ) → is_final b ≡ true → eqb b 10 ≡ false → is_blank b ≡ true
blank_of_final b f e = grind (arith, common_steps, both_ways)

some_line : (c : ℕ) (cs : List ℕ) → (l : RawLine) × (ls : List RawLine) × (raw_lines (c ∷ cs) ≡ l ∷ ls)
some_line c cs = joined (raw_lines cs)
  where
    prefix : (ls : List RawLine) → (l : RawLine) × (ms : List RawLine) × (with_byte c ls ≡ l ∷ ms)
    prefix [] = (record { bytes = c ∷ []; ended = false }, [], refl)
    prefix (l ∷ ls) = (record { bytes = c ∷ l.bytes; ended = l.ended }, ls, refl)

    joined : (ls : List RawLine) → (l : RawLine) × (ms : List RawLine) × (lines_with c ls ≡ l ∷ ms)
    joined ls = elim (eqb c 10) as (λ t. (l : RawLine) × (ms : List RawLine) × (cond t (record { bytes = []; ended = true } ∷ ls) (with_byte c ls) ≡ l ∷ ms)) [
      | true ↦ (record { bytes = []; ended = true }, ls, refl)
      | false ↦ prefix ls
    ]

EndsBlank-lines : (text : List ℕ) → EndsFinal text → EndsBlank (raw_lines text)
EndsBlank-lines [] f = tt
EndsBlank-lines (b ∷ []) f =
    elim (eqb b 10) as (λ t. eqb b 10 ≡ t → EndsBlank (cond t (record { bytes = []; ended = true } ∷ []) (record { bytes = b ∷ []; ended = false } ∷ []))) [
      | true ↦ λ (e : eqb b 10 ≡ true). λ q. absurd (both_ways true q refl)
      | false ↦ λ (e : eqb b 10 ≡ false). λ _. ([], b, refl, blank_of_final b f e)
    ] refl
EndsBlank-lines (b ∷ c ∷ cs) f =
    let some = some_line c cs in
    search (rules, blank_prefix, blank_with, (EndsBlank-lines (c ∷ cs) f))

pub words_trailing : (bs : List ℕ) (b : ℕ) → is_blank b ≡ true → line_words (bs ++ b ∷ []) ≡ line_words bs
words_trailing [] b e = words_blank b [] e
words_trailing (c ∷ []) b e = grind (arith, common_steps, words_blank)
words_trailing (c ∷ d ∷ ds) b e = ap (words_with c (d ∷ ds)) (words_trailing (d ∷ ds) b e)

and_then_ok : (r : Scan) → and_then r (λ t. Ok t) ≡ r
and_then_ok (Ok t) = refl
and_then_ok (Err e) = refl

open_is : (n : ℕ) (ws : List Word) (p : Progress) → outcome (fresh_outcome n ws p) ≡ open_outcome n ws p
open_is n ws p = grind (arith, common_steps, lifted, on_line, outcome, quiet, standing, words_read)

-- a last line without its LF, up to a blank
open_line_end : (n : ℕ) (p : Progress) (bs : List ℕ) (b : ℕ) → AllByRecursion IsNoEnd (bs ++ b ∷ []) → is_blank b ≡ true
    → outcome (scan (standing Start n p) (bs ++ b ∷ [])) ≡ open_outcome n (line_words (bs ++ b ∷ [])) p
open_line_end n p bs b h e =
    let parts = all_parts bs h in
    search (rules, scan-append, at_blank, from_start, open_is, words_trailing)
  where
    all_parts : (bs : List ℕ) → AllByRecursion IsNoEnd (bs ++ b ∷ []) → AllByRecursion IsNoEnd bs × (eqb b 10 ≡ false)
    all_parts [] h = (tt, h.0)
    all_parts (c ∷ cs) h = let k = all_parts cs h.1 in ((h.0, k.0), k.1)

    at_blank : (r : Scan) → eqb b 10 ≡ false → and_then r (λ t. scan t (b ∷ [])) ≡ and_then r blank_step
    at_blank (Ok t) k = and_then_ok (byte_step t b) ∙ byte_blank t b k e
    at_blank (Err c) k = refl

tail_blank : (l : RawLine) (ls : List RawLine) → EndsBlank (l ∷ ls) → EndsBlank ls
tail_blank l [] h = tt
tail_blank l (m ∷ ls) h = h

open_text : (n : ℕ) (p : Progress) (ls : List RawLine) → AreRaw ls → EndsBlank ls → outcome (scan (standing Start n p) (text_of ls)) ≡ raw_scan false n ls p
open_text n p [] r b = refl
open_text n p (l ∷ ls) r b = elim l.ended as (λ t. l.ended ≡ t → outcome (scan (standing Start n p) (l.bytes ++ cond t (10 ∷ text_of ls) (text_of ls)))
    ≡ cond (t || false) (scanned_then (line_outcome n (line_words l.bytes) p) (raw_scan false (suc n) ls)) (open_outcome n (line_words l.bytes) p)) [
      | true ↦ λ (e : l.ended ≡ true). ap outcome (line_and_rest n p l.bytes (text_of ls) (tail_raw l ls r).0)
          ∙ outcome_from (line_outcome n (line_words l.bytes) p) (λ q. scan (standing Start (suc n) q) (text_of ls))
          ∙ scanned_same (line_outcome n (line_words l.bytes) p) (λ q. outcome (scan (standing Start (suc n) q) (text_of ls))) (raw_scan false (suc n) ls)
          (λ q. open_text (suc n) q ls (tail_raw l ls r).1 (tail_blank l ls b))
      | false ↦ λ (e : l.ended ≡ false). at_last l ls r b e
    ] refl
  where
    at_last : (l : RawLine) (ls : List RawLine) → AreRaw (l ∷ ls) → EndsBlank (l ∷ ls) → l.ended ≡ false
        → outcome (scan (standing Start n p) (l.bytes ++ text_of ls)) ≡ open_outcome n (line_words l.bytes) p
    at_last l [] r b e = let k = b e in
        ap (λ ds. outcome (scan (standing Start n p) ds)) (append-nil l.bytes ∙ k.2) ∙ open_line_end n p k.0 k.1 (subst (AllByRecursion IsNoEnd) k.2 r.0) k.3
        ∙ ap (λ ds. open_outcome n (line_words ds) p) (sym k.2)
    at_last l (m ∷ ms) r b e = absurd (both_ways l.ended e r.1)

-- the answer for the bytes up to a final one
abbrev pub OpenIs : List ℕ → Scanned → Type 0
OpenIs text (Ok q) = lines_fault false 0 [] (significant_lines text) ≡ None
OpenIs text (Err e) = lines_fault false 0 [] (significant_lines text) ≡ Some e

pub open_fault : (k : PlainBid → PlainBid) (text : List ℕ) → EndsFinal (blank_returns text) → OpenIs text (outcome (scan (first_state k) (blank_returns text)))
open_fault k text f = subst (OpenIs text) (sym (ap (λ bs. outcome (scan (first_state k) bs)) (sym (text_of-lines (blank_returns text)))
    ∙ open_text 1 (start k) (raw_lines (blank_returns text)) (AreRaw-lines (blank_returns text)) (EndsBlank-lines (blank_returns text) f)
    ∙ raw_scan-lines false 1 (raw_lines (blank_returns text)) (start k) 0 (AreRaw-lines (blank_returns text)) (λ e. absurd (both_ways false refl e))))
    (search (rules, answer, lines_step, kept_are, kept_ends, AreRaw-lines, at_start))
  where
    answer : (r : Scanned) → LinesAre false 0 [] (significant_lines text) r → OpenIs text r
    answer (Ok q) h = h.0
    answer (Err e) h = h
