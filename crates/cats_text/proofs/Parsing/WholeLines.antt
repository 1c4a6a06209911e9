-- All words of a line, and all lines: the parser and the definitions agree.
use Rattle.cats_text.proofs.Common.{◌≡◌, ℕ, suc, ◌<◌, Bool, true, false, ◌&&◌, ◌||◌, cond, List, [], ◌∷◌, ◌++◌, length, map, refl, sym, ap, subst, arith, Some}
use Rattle.cats_text.proofs.Common.{None, Result, Ok, Err, append-nil, append_assoc, both_ways, option_or, AllByRecursion, Word, Line, words_fault, line_fault}
use Rattle.cats_text.proofs.Common.{lines_fault, fault_at, is_line_due, Progress, Reading, word_read, line_read, is_due, Missing, ReadFault, summary}
use Rattle.cats_text.proofs.Common.{common_steps}
use Rattle.cats_text.proofs.Parsing.States.{IsAt, WordFollows}
use Rattle.cats_text.proofs.Parsing.Lines.{word_step, line_step, due_step}

abbrev pub IsWord : Word → Type 0
IsWord w = 0 < length w

abbrev pub reading_then : Reading → (Progress → Reading) → Reading
reading_then (Ok p) f = f p
reading_then (Err kind) f = Err kind

-- ---- the words of a line

abbrev pub words_read : List Word → Progress → Reading
words_read [] p = Ok p
words_read (w ∷ ws) p = reading_then (word_read p (summary w)) (words_read ws)

abbrev pub WordsFollow : List (List Word) → List Word → List Word → Reading → Type 0
WordsFollow lines before ws (Ok q) = (words_fault lines before ws ≡ None) × IsAt lines (before ++ ws) q
WordsFollow lines before ws (Err kind) = words_fault lines before ws ≡ Some kind

words_after : (lines : List (List Word)) (before : List Word) (w : Word) (ws : List Word) (r : Reading) → WordFollows lines before w r
    → ((q : Progress) → IsAt lines (before ++ w ∷ []) q → WordsFollow lines (before ++ w ∷ []) ws (words_read ws q))
    → WordsFollow lines before (w ∷ ws) (reading_then r (words_read ws))
words_after lines before w ws (Ok q) h next = grind (arith, common_steps, append_assoc)
words_after lines before w ws (Err kind) h next = ap (λ o. option_or o (words_fault lines (before ++ w ∷ []) ws)) h

pub words_step : (lines : List (List Word)) (before ws : List Word) (p : Progress) → AllByRecursion IsWord ws → IsAt lines before p
    → WordsFollow lines before ws (words_read ws p)
words_step lines before [] p words at = (refl, subst (λ ds. IsAt lines ds p) (sym (append-nil before)) at)
words_step lines before ([] ∷ ws) p words at = absurd (let no : 0 < 0 = words.0 in omega arith)
words_step lines before ((a ∷ w) ∷ ws) p words at = grind (arith, common_steps, word_step, words_after, (words_step lines (before ++ (a ∷ w) ∷ []) ws))

-- ---- a line

abbrev pub Scanned : Type 0
Scanned = Result Progress ReadFault

abbrev pub on_line : ℕ → Reading → Scanned
on_line n (Ok p) = Ok p
on_line n (Err kind) = Err (fault_at n kind)

abbrev pub scanned_then : Scanned → (Progress → Scanned) → Scanned
scanned_then (Ok p) f = f p
scanned_then (Err e) f = Err e

-- its words and its end
abbrev pub whole_line : Line → Progress → Scanned
whole_line l p = on_line l.number (reading_then (words_read l.words p) line_read)

-- its words alone
abbrev pub open_line : Line → Progress → Scanned
open_line l p = on_line l.number (words_read l.words p)

abbrev pub IsLine : Line → Type 0
IsLine l = (0 < length l.words) × AllByRecursion IsWord l.words

-- where the end of a line is judged
abbrev pub LineIs : Bool → List (List Word) → Line → Scanned → Type 0
LineIs whole lines l (Ok q) = (line_fault whole lines l ≡ None) × IsAt (lines ++ l.words ∷ []) [] q
LineIs whole lines l (Err e) = line_fault whole lines l ≡ Some e

pub whole_line_step : (whole : Bool) (lines : List (List Word)) (l : Line) (p : Progress) → (l.ended || whole) ≡ true → IsLine l → IsAt lines [] p
    → LineIs whole lines l (whole_line l p)
whole_line_step whole lines l p judged is at = grind (arith, common_steps, line_step, words_step)

-- ---- all lines

-- the lines from here on, and where the input is whole its end
abbrev pub lines_scan : Bool → ℕ → List Line → Progress → Scanned
lines_scan whole count [] p = cond (whole && is_due p) (Err (fault_at (suc count) Missing)) (Ok p)
lines_scan whole count (l ∷ ls) p = cond (l.ended || whole) (scanned_then (whole_line l p) (lines_scan whole count ls)) (open_line l p)

-- only the last may lack its LF
abbrev pub AreEndedButLast : List Line → Type 0
AreEndedButLast (l ∷ m ∷ ls) = (l.ended ≡ true) × AreEndedButLast (m ∷ ls)
AreEndedButLast _ = Unit {0}

abbrev pub LinesAre : Bool → ℕ → List (List Word) → List Line → Scanned → Type 0
LinesAre whole count lines ls (Ok q) = (lines_fault whole count lines ls ≡ None)
    × (whole ≡ true → IsAt (lines ++ map (λ l. l.words) ls) [] q × (is_line_due (lines ++ map (λ l. l.words) ls) ≡ false))
LinesAre whole count lines ls (Err e) = lines_fault whole count lines ls ≡ Some e

end_step : (whole : Bool) (count : ℕ) (lines : List (List Word)) (p : Progress) → IsAt lines [] p
    → LinesAre whole count lines [] (cond (whole && is_due p) (Err (fault_at (suc count) Missing)) (Ok p))
end_step false count lines p at = (refl, λ e. absurd (both_ways false refl e))
end_step true count lines p at = grind (arith, common_steps, append-nil, due_step)

judged_line : (whole : Bool) (count : ℕ) (lines : List (List Word)) (l : Line) (ls : List Line) (r : Scanned) → LineIs whole lines l r
    → ((q : Progress) → IsAt (lines ++ l.words ∷ []) [] q → LinesAre whole count (lines ++ l.words ∷ []) ls (lines_scan whole count ls q))
    → LinesAre whole count lines (l ∷ ls) (scanned_then r (lines_scan whole count ls))
judged_line whole count lines l ls (Err e) h next = ap (λ o. option_or o (lines_fault whole count (lines ++ l.words ∷ []) ls)) h
judged_line whole count lines l ls (Ok q) h next = grind (arith, common_steps, append_assoc)

-- the last line, without its LF, where the input goes on
open_last : (count : ℕ) (lines : List (List Word)) (l : Line) (p : Progress) → l.ended ≡ false → IsLine l → IsAt lines [] p
    → LinesAre false count lines (l ∷ []) (open_line l p)
open_last count lines l p unended is at = grind (arith, common_steps, both_ways, words_step)

open_is_last : (count : ℕ) (lines : List (List Word)) (l : Line) (ls : List Line) (p : Progress) → l.ended ≡ false → AreEndedButLast (l ∷ ls) → IsLine l
    → IsAt lines [] p → LinesAre false count lines (l ∷ ls) (open_line l p)
open_is_last count lines l [] p unended ends is at = open_last count lines l p unended is at
open_is_last count lines l (m ∷ ls) p unended ends is at = absurd (both_ways l.ended unended ends.0)

tail_ends : (l : Line) (ls : List Line) → AreEndedButLast (l ∷ ls) → AreEndedButLast ls
tail_ends l [] e = tt
tail_ends l (m ∷ ls) e = e.1

pub neither : (a b : Bool) → (a || b) ≡ false → (a ≡ false) × (b ≡ false)
neither true b e = absurd (both_ways true e refl)
neither false b e = (refl, e)

pub lines_step : (whole : Bool) (count : ℕ) (lines : List (List Word)) (ls : List Line) (p : Progress) → AllByRecursion IsLine ls → AreEndedButLast ls
    → IsAt lines [] p → LinesAre whole count lines ls (lines_scan whole count ls p)
lines_step whole count lines [] p is ends at = end_step whole count lines p at
lines_step whole count lines (l ∷ ls) p is ends at =
    elim (l.ended || whole) as (λ b. (l.ended || whole) ≡ b
    → LinesAre whole count lines (l ∷ ls) (cond b (scanned_then (whole_line l p) (lines_scan whole count ls)) (open_line l p))) [
      | true ↦ λ (judged : (l.ended || whole) ≡ true). judged_line whole count lines l ls (whole_line l p) (whole_line_step whole lines l p judged is.0 at)
          (λ q at'. lines_step whole count (lines ++ l.words ∷ []) ls q is.1 (tail_ends l ls ends) at')
      | false ↦ λ (judged : (l.ended || whole) ≡ false). let both = neither l.ended whole judged in
          subst (λ b. LinesAre b count lines (l ∷ ls) (open_line l p)) (sym both.1) (open_is_last count lines l ls p both.0 ends is.0 at)
    ] refl
