-- The place of the first fault: the parser's answers over the lines give it, and it has the first fault. The idea: each
-- step of the search is a step of the definition, at what the parser keeps of the lines and words before.
use Rattle.cats_text.proofs.Common.{rules, ◌≡◌, ℕ, suc, ◌+◌, ◌<◌, Bool, true, false, cond, List, [], ◌∷◌, ◌++◌, length, filter, refl, sym, ap, ◌∙◌, subst}
use Rattle.cats_text.proofs.Common.{arith, Ok, Option, Some, None, Err, option_map, append-nil, append_assoc, length-append, then_some, option_or}
use Rattle.cats_text.proofs.Common.{AllByRecursion, Word, RawLine, Line, raw_lines, blank_returns, line_words, is_significant, numbered, significant_lines}
use Rattle.cats_text.proofs.Common.{line_count, word_fault, end_fault, words_fault, line_fault, lines_fault, first_fault, fault_at, PlainPlace, place_behind}
use Rattle.cats_text.proofs.Common.{words_place, lines_place, first_place, fault_of, plain_place, FaultPlace, number_alone, summary, Reading, start, word_read}
use Rattle.cats_text.proofs.Common.{line_read, is_due, Judged, judged_at, judged_then, words_judged, line_judged, Progress, Kind, Missing, ReadFault}
use Rattle.cats_text.proofs.Common.{common_steps, ◌≢◌, Memory, Stops}
use Rattle.cats_text.proofs.Parsing.Lines.{word_step, line_step, due_step}
use Rattle.cats_text.proofs.Parsing.States.{IsAt, WordFollows}
use Rattle.cats_text.proofs.Parsing.WholeLines.{IsWord}
use Rattle.cats_text.proofs.Texts.FirstFaults.{at_start, words_are, significant_pos}

-- ---- the words of a line

abbrev pub WordsPlaced : ℕ → List (List Word) → List Word → List Word → Judged → Type 0
WordsPlaced n lines before ws (Ok q) = (words_place n lines before ws ≡ None) × IsAt (lines ++ (before ++ ws) ∷ []) [] q
WordsPlaced n lines before ws (Err place) = words_place n lines before ws ≡ Some place

end_placed : (n : ℕ) (lines : List (List Word)) (before : List Word) (p : Progress) → 0 < length before → IsAt lines before p
    → WordsPlaced n lines before [] (judged_at n (suc (length before)) [] (line_read p))
end_placed n lines before p some at = grind (arith, common_steps, append-nil, line_step, option_map)

pub words_placed : (n : ℕ) (lines : List (List Word)) (before ws : List Word) (p : Progress) → AllByRecursion IsWord ws → 0 < length before + length ws
    → IsAt lines before p → WordsPlaced n lines before ws (words_judged n (suc (length before)) ws p)
words_placed n lines before [] p words some at = end_placed n lines before p (omega arith) at
words_placed n lines before ([] ∷ ws) p words some at = absurd (let no : 0 < 0 = words.0 in omega arith)
words_placed n lines before ((a ∷ w) ∷ ws) p words some at =
    by_word (word_read p (summary (a ∷ w))) (word_step lines before a w p at)
    (λ q at'. words_placed n lines (before ++ (a ∷ w) ∷ []) ws q words.1 (omega (arith, length-append before ((a ∷ w) ∷ []))) at')
  where
    later : Option PlainPlace
    later = words_place n lines (before ++ (a ∷ w) ∷ []) ws

    more : length (before ++ (a ∷ w) ∷ []) ≡ suc (length before)
    more = omega (arith, length-append before ((a ∷ w) ∷ []))

    behind : (r : Judged) → word_fault lines before (a ∷ w) ≡ None → WordsPlaced n lines (before ++ (a ∷ w) ∷ []) ws r
        → WordsPlaced n lines before ((a ∷ w) ∷ ws) r
    behind (Ok q) none f = (
      ap (λ o. option_or (option_map (place_behind n before (a ∷ w)) o) later) none ∙ f.0,
      subst (λ ds. IsAt (lines ++ ds ∷ []) [] q) (append_assoc before ((a ∷ w) ∷ []) ws) f.1,
    )
    behind (Err place) none f = ap (λ o. option_or (option_map (place_behind n before (a ∷ w)) o) later) none ∙ f

    by_word : (r : Reading) → WordFollows lines before (a ∷ w) r → ((q : Progress) → IsAt lines (before ++ (a ∷ w) ∷ []) q
        → WordsPlaced n lines (before ++ (a ∷ w) ∷ []) ws (words_judged n (suc (length (before ++ (a ∷ w) ∷ []))) ws q))
        → WordsPlaced n lines before ((a ∷ w) ∷ ws) (judged_then (judged_at n (suc (length before)) (a ∷ w) r) (words_judged n (suc (suc (length before))) ws))
    by_word (Err kind) f next = ap (λ o. option_or (option_map (place_behind n before (a ∷ w)) o) later) f
    by_word (Ok q) f next = behind (words_judged n (suc (suc (length before))) ws q) f.0
        (subst (λ k. WordsPlaced n lines (before ++ (a ∷ w) ∷ []) ws (words_judged n (suc k) ws q)) more (next q f.1))

-- ---- the lines so far

abbrev pub kept : List Line → List Line
kept ls = filter (λ l. is_significant l.words) ls

-- the search is behind significant lines, and what it finds from the next line on, which has this number, is the place
pub record IsBehind (text : List ℕ) (n : ℕ) (raws : List RawLine) (p : Progress) : Type 0 where
  pub lines : List (List Word)
  pub at : IsAt lines [] p
  pub place : lines_place (line_count text) lines (kept (numbered n raws)) ≡ first_place text
  pub number : n + length raws ≡ suc (line_count text)
  pub count : length lines + length (kept (numbered n raws)) ≡ length (significant_lines text)

pub at_first_line : (text : List ℕ) → IsBehind text 1 (raw_lines (blank_returns text)) (start (λ _. number_alone))
at_first_line text = record { lines = []; at = at_start (λ _. number_alone); place = refl; number = omega arith; count = omega arith }

kept_first : (n : ℕ) (raw : RawLine) (raws : List RawLine) → is_significant (line_words raw.bytes) ≡ true
    → kept (numbered n (raw ∷ raws)) ≡ record { number = n; words = line_words raw.bytes; ended = raw.ended } ∷ kept (numbered (suc n) raws)
kept_first n raw raws s = rw s refl

kept_behind : (n : ℕ) (raw : RawLine) (raws : List RawLine) → is_significant (line_words raw.bytes) ≡ false
    → kept (numbered n (raw ∷ raws)) ≡ kept (numbered (suc n) raws)
kept_behind n raw raws s = rw s refl

-- what the words of the next line give
line_placed : (text : List ℕ) (n : ℕ) (raw : RawLine) (raws : List RawLine) (p : Progress) (b : IsBehind text n (raw ∷ raws) p)
    → is_significant (line_words raw.bytes) ≡ true → WordsPlaced n b.lines [] (line_words raw.bytes) (words_judged n 1 (line_words raw.bytes) p)
line_placed text n raw raws p b s = grind (arith, common_steps, significant_pos, words_are, words_placed)

-- the place is in the next line
pub line_stopped : (text : List ℕ) (n : ℕ) (raw : RawLine) (raws : List RawLine) (p : Progress) (place : PlainPlace) → IsBehind text n (raw ∷ raws) p
    → line_judged n (line_words raw.bytes) p ≡ Err place → first_place text ≡ Some place
line_stopped text n raw raws p place b judged = elim (is_significant (line_words raw.bytes)) as
    (λ t. is_significant (line_words raw.bytes) ≡ t → cond t (words_judged n 1 (line_words raw.bytes) p) (Ok p) ≡ Err place → first_place text ≡ Some place) [
      | true ↦ λ (s : is_significant (line_words raw.bytes) ≡ true) (j : words_judged n 1 (line_words raw.bytes) p ≡ Err place).
          sym b.place ∙ ap (lines_place (line_count text) b.lines) (kept_first n raw raws s)
          ∙ ap (λ o. option_or o (lines_place (line_count text) (b.lines ++ line_words raw.bytes ∷ []) (kept (numbered (suc n) raws))))
          (subst (WordsPlaced n b.lines [] (line_words raw.bytes)) j (line_placed text n raw raws p b s))
      | false ↦ λ (s : is_significant (line_words raw.bytes) ≡ false) (j : Ok p ≡ Err place). absurd cc
    ] refl judged

-- it is not, so the search goes on behind the line
pub line_passed : (text : List ℕ) (n : ℕ) (raw : RawLine) (raws : List RawLine) (p q : Progress) → IsBehind text n (raw ∷ raws) p
    → line_judged n (line_words raw.bytes) p ≡ Ok q → IsBehind text (suc n) raws q
line_passed text n raw raws p q b judged = elim (is_significant (line_words raw.bytes)) as
    (λ t. is_significant (line_words raw.bytes) ≡ t → cond t (words_judged n 1 (line_words raw.bytes) p) (Ok p) ≡ Ok q → IsBehind text (suc n) raws q) [
      | true ↦ λ (s : is_significant (line_words raw.bytes) ≡ true) (j : words_judged n 1 (line_words raw.bytes) p ≡ Ok q).
          let placed : WordsPlaced n b.lines [] (line_words raw.bytes) (Ok q) =
          subst (WordsPlaced n b.lines [] (line_words raw.bytes)) j (line_placed text n raw raws p b s) in
          record {
            lines = b.lines ++ line_words raw.bytes ∷ [];
            at = placed.1;
            place = sym (ap (λ o. option_or o (lines_place (line_count text) (b.lines ++ line_words raw.bytes ∷ []) (kept (numbered (suc n) raws)))) placed.0)
                ∙ sym (ap (lines_place (line_count text) b.lines) (kept_first n raw raws s)) ∙ b.place;
            number = omega (arith, b.number);
            count = omega (arith, b.count, ap (λ (ls : List Line). length ls) (kept_first n raw raws s), length-append b.lines (line_words raw.bytes ∷ []));
          }
      | false ↦ search (rules, IsAt, kept_behind)
    ] refl judged

-- a call that did not lack memory stopped where the machine does
pub machine_stops : (kind : Kind) (N F : Type 0) → kind ≢ Memory → Stops kind N F → F
machine_stops Memory N F other stop = absurd (other refl)
machine_stops kind N F other stop = stop

-- behind the last line
pub lines_ended : (text : List ℕ) (n : ℕ) (p : Progress) → IsBehind text n [] p → first_place text ≡ cond (is_due p) (Some (place_behind n [] [] Missing)) None
lines_ended text n p b = grind (arith, common_steps, due_step)

pub none_left : (text : List ℕ) → length text ≡ 0 → text ≡ []
none_left [] e = refl
none_left (b ∷ bs) e = absurd (omega arith)

pub place_if : (b : Bool) (place : FaultPlace) → option_map plain_place (then_some b place) ≡ cond b (Some (plain_place place)) None
place_if true place = refl
place_if false place = refl

-- ---- the fault at the place

at_fault : (n : ℕ) (before : List Word) (text : Word) (o : Option Kind)
    → option_map fault_of (option_map (place_behind n before text) o) ≡ option_map (fault_at n) o
at_fault n before text None = refl
at_fault n before text (Some kind) = refl

or_fault : (n : ℕ) (before : List Word) (w : Word) (o later end : Option Kind) (place : Option PlainPlace)
    → option_map fault_of place ≡ option_map (fault_at n) (option_or later end)
    → option_map fault_of (option_or (option_map (place_behind n before w) o) place) ≡ option_map (fault_at n) (option_or (option_or o later) end)
or_fault n before w None later end place e = e
or_fault n before w (Some kind) later end place e = refl

words_same : (n : ℕ) (lines : List (List Word)) (before ws : List Word)
    → option_map fault_of (words_place n lines before ws) ≡ option_map (fault_at n) (option_or (words_fault lines before ws) (end_fault lines (before ++ ws)))
words_same n lines before [] = grind (arith, common_steps, append-nil, at_fault, option_map)
words_same n lines before (w ∷ ws) = grind (arith, common_steps, append_assoc, option_map, or_fault, (words_same n lines (before ++ w ∷ []) ws))

line_same : (lines : List (List Word)) (l : Line) → option_map fault_of (words_place l.number lines [] l.words) ≡ line_fault true lines l
line_same lines l = grind (arith, common_steps, option_map, words_same)

lines_same : (count : ℕ) (lines : List (List Word)) (ls : List Line) → option_map fault_of (lines_place count lines ls) ≡ lines_fault true count lines ls
lines_same count lines [] = grind (arith, common_steps, option_map)
lines_same count lines (l ∷ ls) =
    joined (words_place l.number lines [] l.words) (line_fault true lines l) (line_same lines l) (lines_same count (lines ++ l.words ∷ []) ls)
  where
    joined : (o : Option PlainPlace) (f : Option ReadFault) → option_map fault_of o ≡ f
        → option_map fault_of (lines_place count (lines ++ l.words ∷ []) ls) ≡ lines_fault true count (lines ++ l.words ∷ []) ls
        → option_map fault_of (option_or o (lines_place count (lines ++ l.words ∷ []) ls)) ≡ option_or f (lines_fault true count (lines ++ l.words ∷ []) ls)
    joined None f e rest = rest ∙ ap (λ o. option_or o (lines_fault true count (lines ++ l.words ∷ []) ls)) e
    joined (Some place) f e rest = ap (λ o. option_or o (lines_fault true count (lines ++ l.words ∷ []) ls)) e

pub place_has_fault : (text : List ℕ) → option_map fault_of (first_place text) ≡ first_fault text
place_has_fault text = lines_same (line_count text) [] (significant_lines text)
