-- From bytes to lines: the scanner over a whole text gives what the parser gives over its significant lines.
use Rattle.cats_text.proofs.Common.{rules, ◌≡◌, ℕ, suc, ◌<◌, Bool, true, false, ◌&&◌, ◌||◌, cond, eqb, List, [], ◌∷◌, ◌++◌, length, refl, sym, ap, ◌∙◌, subst}
use Rattle.cats_text.proofs.Common.{arith, Ok, Err, append-nil, both_ways, eqb-true, AllByRecursion, Word, RawLine, raw_lines, with_byte, line_words}
use Rattle.cats_text.proofs.Common.{is_significant, is_blank, fault_at, Progress, Reading, line_read, is_due, State, Scan, and_then, scan, byte_step}
use Rattle.cats_text.proofs.Common.{blank_step, words_step, next_line, end_step, missing_step, line_behind, with_reading, letter_mode, Missing, ReadFault, Mode}
use Rattle.cats_text.proofs.Common.{Start, Blank, Comment, Between, Inside, word_from, common_steps}
use Rattle.cats_text.proofs.Scanning.Lines.{byte_blank, byte_letter, and_then-assoc, scan-append, IsNoEnd, standing, lifted, fresh_outcome, quiet, from_start}
use Rattle.cats_text.proofs.Parsing.WholeLines.{words_read, reading_then, on_line, Scanned, scanned_then}

-- ---- a text as its lines

abbrev pub text_of : List RawLine → List ℕ
text_of [] = []
text_of (l ∷ ls) = l.bytes ++ cond l.ended (10 ∷ text_of ls) (text_of ls)

pub text_of-lines : (text : List ℕ) → text_of (raw_lines text) ≡ text
text_of-lines [] = refl
text_of-lines (b ∷ bs) = grind (arith, common_steps, eqb-true, (text_of-lines bs))

-- no LF in a line; only the last may lack one behind it, and then it is not empty
abbrev pub AreRaw : List RawLine → Type 0
AreRaw [] = Unit {0}
AreRaw (l ∷ []) = AllByRecursion IsNoEnd l.bytes × (l.ended ≡ false → 0 < length l.bytes)
AreRaw (l ∷ m ∷ ls) = AllByRecursion IsNoEnd l.bytes × (l.ended ≡ true) × AreRaw (m ∷ ls)

raw_with_byte : (b : ℕ) (ls : List RawLine) → eqb b 10 ≡ false → AreRaw ls → AreRaw (with_byte b ls)
raw_with_byte b [] e r = ((e, tt), λ _. omega arith)
raw_with_byte b (l ∷ []) e r = ((e, r.0), λ _. omega arith)
raw_with_byte b (l ∷ m ∷ ls) e r = ((e, r.0), r.1, r.2)

raw_ended : (ls : List RawLine) → AreRaw ls → AreRaw (record { bytes = []; ended = true } ∷ ls)
raw_ended [] r = (tt, λ e. absurd (both_ways true e refl))
raw_ended (l ∷ ls) r = (tt, refl, r)

pub AreRaw-lines : (text : List ℕ) → AreRaw (raw_lines text)
AreRaw-lines [] = tt
AreRaw-lines (b ∷ bs) = grind (arith, common_steps, raw_ended, raw_with_byte, (AreRaw-lines bs))

-- ---- a line and its LF

-- what the words of a line and its end give
abbrev pub line_outcome : ℕ → List Word → Progress → Scanned
line_outcome n ws p = cond (is_significant ws) (on_line n (reading_then (words_read ws p) line_read)) (Ok p)

-- what its words alone give
abbrev pub open_outcome : ℕ → List Word → Progress → Scanned
open_outcome n ws p = cond (is_significant ws) (on_line n (words_read ws p)) (Ok p)

abbrev pub outcome : Scan → Scanned
outcome (Ok s) = Ok s.progress
outcome (Err e) = Err e

abbrev pub then_from : Scanned → (Progress → Scan) → Scan
then_from (Ok p) f = f p
then_from (Err e) f = Err e

-- the end of the words, from what is behind the last blank
quiet_words : (n : ℕ) (ws : List Word) (p : Progress) → words_step (standing (quiet ws) n p) ≡ Ok (standing (quiet ws) n p)
quiet_words n [] p = refl
quiet_words n (w ∷ ws) p = refl

-- then the end of the words and the next line, or something else that looks at the progress alone
pub line_then : (n : ℕ) (ws : List Word) (p : Progress) (f : State → Scan) (g : Progress → Scan) → ((m : Mode) (q : Progress) → f (standing m n q) ≡ g q)
    → and_then (and_then (fresh_outcome n ws p) words_step) f ≡ then_from (line_outcome n ws p) g
line_then n ws p f g same = grind (arith, common_steps, lifted, on_line, quiet, quiet_words, reading_then, standing, words_read)

-- a line, its LF, and the rest of the text
pub line_and_rest : (n : ℕ) (p : Progress) (bytes rest : List ℕ) → AllByRecursion IsNoEnd bytes
    → scan (standing Start n p) (bytes ++ 10 ∷ rest) ≡ then_from (line_outcome n (line_words bytes) p) (λ q. scan (standing Start (suc n) q) rest)
line_and_rest n p bytes rest h =
    scan-append (standing Start n p) bytes (10 ∷ rest) ∙ regroup (scan (standing Start n p) bytes)
    ∙ ap (λ r. and_then (and_then r words_step) (λ t. and_then (next_line t) (λ u. scan u rest))) (from_start n p bytes h)
    ∙ line_then n (line_words bytes) p (λ t. and_then (next_line t) (λ u. scan u rest)) (λ q. scan (standing Start (suc n) q) rest) (λ m q. refl)
  where
    one : (t : State) → scan t (10 ∷ rest) ≡ and_then (and_then (blank_step t) words_step) (λ u. and_then (next_line u) (λ v. scan v rest))
    one t = and_then-assoc (and_then (blank_step t) words_step) next_line (λ u. scan u rest)

    regroup : (r : Scan) → and_then r (λ t. scan t (10 ∷ rest)) ≡ and_then (and_then (and_then r blank_step) words_step)
        (λ t. and_then (next_line t) (λ u. scan u rest))
    regroup (Ok t) = one t
    regroup (Err e) = refl

-- ---- the end of the input

abbrev pub scan_then : Scan → (State → Scanned) → Scanned
scan_then (Ok s) f = f s
scan_then (Err e) f = Err e

line_then_outcome : (n : ℕ) (ws : List Word) (p : Progress) (f : State → Scanned) (g : Progress → Scanned)
    → ((m : Mode) (q : Progress) → f (standing m n q) ≡ g q) → scan_then (and_then (fresh_outcome n ws p) words_step) f ≡ scanned_then (line_outcome n ws p) g
line_then_outcome n ws p f g same = grind (arith, common_steps, lifted, on_line, quiet, quiet_words, reading_then, scanned_then, standing, words_read)

-- behind a byte of a line the line has begun
pub record HasBegun (s t : State) : Type 0 where
  pub line : t.line ≡ s.line
  pub behind : line_behind t ≡ suc s.line

abbrev done : State → Scan
done s = Ok s

abbrev fails : ReadFault → Scan
fails e = Err e

state_ok : (s t : State) → done s ≡ done t → s ≡ t
state_ok s t h = cc

no_state : (e : ReadFault) (t : State) → fails e ≡ done t → ⊥
no_state e t h = cc

begun_reading : (s t : State) (r : Reading) → with_reading s Between r ≡ done t → HasBegun s t
begun_reading s t (Ok q) e = subst (HasBegun s) (state_ok (record s { mode = Between; progress = q }) t e) (record { line = refl; behind = refl })
begun_reading s t (Err kind) e = absurd (no_state (fault_at s.line kind) t e)

begun_blank : (m : Mode) (n : ℕ) (p : Progress) (t : State) → blank_step (standing m n p) ≡ Ok t → HasBegun (standing m n p) t
begun_blank Start n p t e = subst (HasBegun (standing Start n p)) (state_ok (standing Blank n p) t e) (record { line = refl; behind = refl })
begun_blank Blank n p t e = subst (HasBegun (standing Blank n p)) (state_ok (standing Blank n p) t e) (record { line = refl; behind = refl })
begun_blank Comment n p t e = subst (HasBegun (standing Comment n p)) (state_ok (standing Comment n p) t e) (record { line = refl; behind = refl })
begun_blank Between n p t e = subst (HasBegun (standing Between n p)) (state_ok (standing Between n p) t e) (record { line = refl; behind = refl })
begun_blank (Inside w) n p t e = begun_reading (standing (Inside w) n p) t _ e

begun_letter : (m : Mode) (n : ℕ) (p : Progress) (b : ℕ) → line_behind (standing (letter_mode m b) n p) ≡ suc n
begun_letter Start n p b = elim (eqb b 37) as (λ t. line_behind (standing (cond t Comment (Inside (word_from b))) n p) ≡ suc n) [ true ↦ refl | false ↦ refl ]
begun_letter Blank n p b = elim (eqb b 37) as (λ t. line_behind (standing (cond t Comment (Inside (word_from b))) n p) ≡ suc n) [ true ↦ refl | false ↦ refl ]
begun_letter _ n p b = refl

pub begun_byte : (s t : State) (b : ℕ) → eqb b 10 ≡ false → byte_step s b ≡ Ok t → HasBegun s t
begun_byte s t b h e = elim (is_blank b) as (λ q. is_blank b ≡ q → HasBegun s t) [
  | true ↦ λ (q : is_blank b ≡ true). begun_blank s.mode s.line s.progress t (sym (byte_blank s b h q) ∙ e)
  | false ↦ search (rules, state_ok, byte_letter, begun_letter)
] refl

begun_scan : (s t : State) (bytes : List ℕ) → AllByRecursion IsNoEnd bytes → line_behind s ≡ suc s.line → scan s bytes ≡ Ok t → HasBegun s t
begun_scan s t [] h b e = subst (HasBegun s) (state_ok s t e) (record { line = refl; behind = b })
begun_scan s t (x ∷ xs) h b e = step (byte_step s x) refl (λ u f g. begun_scan u t xs h.1 f g) e
  where
    step : (r : Scan) → byte_step s x ≡ r → ((u : State) → line_behind u ≡ suc u.line → scan u xs ≡ Ok t → HasBegun u t) → and_then r (λ u. scan u xs) ≡ Ok t
        → HasBegun s t
    step (Ok u) is next f = let first = begun_byte s u x h.0 is in let later = next u (first.behind ∙ ap suc (sym first.line)) f in
        record { line = later.line ∙ first.line; behind = later.behind ∙ ap suc first.line }
    step (Err c) is next f = absurd (no_state c t f)

pub begun_line : (s t : State) (b : ℕ) (bytes : List ℕ) → AllByRecursion IsNoEnd (b ∷ bytes) → scan s (b ∷ bytes) ≡ Ok t → HasBegun s t
begun_line s t b bytes h e = step (byte_step s b) refl e
  where
    step : (r : Scan) → byte_step s b ≡ r → and_then r (λ u. scan u bytes) ≡ Ok t → HasBegun s t
    step (Ok u) is f = let first = begun_byte s u b h.0 is in let later = begun_scan u t bytes h.1 (first.behind ∙ ap suc (sym first.line)) f in
        record { line = later.line ∙ first.line; behind = later.behind ∙ ap suc first.line }
    step (Err c) is f = absurd (no_state c t f)

-- ---- all lines of a text

abbrev pub raw_scan : Bool → ℕ → List RawLine → Progress → Scanned
raw_scan whole n [] p = cond (whole && is_due p) (Err (fault_at n Missing)) (Ok p)
raw_scan whole n (l ∷ ls) p = cond (l.ended || whole) (scanned_then (line_outcome n (line_words l.bytes) p) (raw_scan whole (suc n) ls))
    (open_outcome n (line_words l.bytes) p)

-- what is due, at the end
abbrev pub due_outcome : ℕ → Progress → Scanned
due_outcome n p = cond (is_due p) (Err (fault_at n Missing)) (Ok p)

due_is : (n : ℕ) (s : State) → outcome (missing_step n s) ≡ due_outcome n s.progress
due_is n s = grind (arith, common_steps)

outcome_then : (r : Scanned) (g : Progress → Scan) (f : State → Scan) → outcome (and_then (then_from r g) f) ≡ scanned_then r (λ q. outcome (and_then (g q) f))
outcome_then (Ok p) g f = refl
outcome_then (Err e) g f = refl

pub outcome_from : (r : Scanned) (g : Progress → Scan) → outcome (then_from r g) ≡ scanned_then r (λ q. outcome (g q))
outcome_from (Ok p) g = refl
outcome_from (Err e) g = refl

-- a last line without its LF, and the end of the input
last_line : (n : ℕ) (p : Progress) (b : ℕ) (bytes : List ℕ) → AllByRecursion IsNoEnd (b ∷ bytes)
    → outcome (and_then (scan (standing Start n p) (b ∷ bytes)) end_step) ≡ scanned_then (line_outcome n (line_words (b ∷ bytes)) p) (due_outcome (suc n))
last_line n p b bytes h =
    regroup (scan (standing Start n p) (b ∷ bytes)) (λ t e. (begun_line (standing Start n p) t b bytes h e).behind)
    ∙ ap (λ r. scan_then (and_then r words_step) (λ t. outcome (missing_step (suc n) t))) (from_start n p (b ∷ bytes) h)
    ∙ line_then_outcome n (line_words (b ∷ bytes)) p (λ t. outcome (missing_step (suc n) t)) (due_outcome (suc n)) (λ m q. due_is (suc n) (standing m n q))
  where
    inner : (r : Scan) (k : ℕ) → outcome (and_then r (missing_step k)) ≡ scan_then r (λ t. outcome (missing_step k t))
    inner (Ok t) k = refl
    inner (Err e) k = refl

    regroup : (r : Scan) → ((t : State) → r ≡ Ok t → line_behind t ≡ suc n)
        → outcome (and_then r end_step) ≡ scan_then (and_then (and_then r blank_step) words_step) (λ t. outcome (missing_step (suc n) t))
    regroup (Ok t) behind = ap (λ k. outcome (and_then (and_then (blank_step t) words_step) (missing_step k))) (behind t refl)
        ∙ inner (and_then (blank_step t) words_step) (suc n)
    regroup (Err e) behind = refl

pub tail_raw : (l : RawLine) (ls : List RawLine) → AreRaw (l ∷ ls) → AllByRecursion IsNoEnd l.bytes × AreRaw ls
tail_raw l [] r = (r.0, tt)
tail_raw l (m ∷ ls) r = (r.0, r.2)

pub whole_text : (n : ℕ) (p : Progress) (ls : List RawLine) → AreRaw ls → outcome (and_then (scan (standing Start n p) (text_of ls)) end_step)
    ≡ raw_scan true n ls p
whole_text n p [] r = due_is n (standing Blank n p)
whole_text n p (l ∷ ls) r =
    elim l.ended as (λ t. l.ended ≡ t → outcome (and_then (scan (standing Start n p) (l.bytes ++ cond t (10 ∷ text_of ls) (text_of ls))) end_step)
    ≡ cond (t || true) (scanned_then (line_outcome n (line_words l.bytes) p) (raw_scan true (suc n) ls)) (open_outcome n (line_words l.bytes) p)) [
      | true ↦ λ (e : l.ended ≡ true). let parts = tail_raw l ls r in ap (λ x. outcome (and_then x end_step)) (line_and_rest n p l.bytes (text_of ls) parts.0)
          ∙ outcome_then (line_outcome n (line_words l.bytes) p) (λ q. scan (standing Start (suc n) q) (text_of ls)) end_step
          ∙ on_outcome (line_outcome n (line_words l.bytes) p) (λ q. whole_text (suc n) q ls parts.1)
      | false ↦ λ (e : l.ended ≡ false). at_last l ls r e
    ] refl
  where
    on_outcome : (o : Scanned) → ((q : Progress) → outcome (and_then (scan (standing Start (suc n) q) (text_of ls)) end_step) ≡ raw_scan true (suc n) ls q)
        → scanned_then o (λ q. outcome (and_then (scan (standing Start (suc n) q) (text_of ls)) end_step)) ≡ scanned_then o (raw_scan true (suc n) ls)
    on_outcome (Ok q) h = h q
    on_outcome (Err e) h = refl

    at_bytes : (bytes : List ℕ) → AllByRecursion IsNoEnd bytes → 0 < length bytes → outcome (and_then (scan (standing Start n p) (bytes ++ [])) end_step)
        ≡ scanned_then (line_outcome n (line_words bytes) p) (due_outcome (suc n))
    at_bytes [] h l = absurd (let no : 0 < 0 = l in omega arith)
    at_bytes (b ∷ bs) h l = ap (λ ds. outcome (and_then (scan (standing Start n p) ds) end_step)) (append-nil (b ∷ bs)) ∙ last_line n p b bs h

    at_last : (l : RawLine) (ls : List RawLine) → AreRaw (l ∷ ls) → l.ended ≡ false
        → outcome (and_then (scan (standing Start n p) (l.bytes ++ text_of ls)) end_step) ≡ scanned_then (line_outcome n (line_words l.bytes) p)
        (raw_scan true (suc n) ls)
    at_last l [] r e = at_bytes l.bytes r.0 (r.1 e)
    at_last l (m ∷ ms) r e = absurd (both_ways l.ended e r.1)
