-- Texts line by line: the first line and what is behind it, and one more line that is rounded.
use Rattle.rounding.proofs.Common.{if◌then◌else◌, ◌≡◌, ℕ, suc, ◌+◌, ◌-◌, ◌<◌, ◌≤◌, min, Bool, true, false, ◌&&◌, leb, ltb, List, [], ◌∷◌, ◌++◌, length, take}
use Rattle.rounding.proofs.Common.{drop, refl, sym, ap, ◌∙◌, ⊎_elim, arith, append_assoc, lt-ltb, le-ltb, cases_lt, map-append, length-drop, take_rest, Word}
use Rattle.rounding.proofs.Common.{drop_all, front_rest, bool_byte, RawLine, raw_lines, blank_returns, line_words, is_significant, replacement, from_second}
use Rattle.rounding.proofs.Common.{replacement_text, before_second, second_word, leading_word, behind_word, with_rounded, Rounded}
use Rattle.rounding.proofs.Common.{rounded_line, line_text, line_changes, change_by, PlainRoundedPrice, before_next}
use Rattle.rounding.proofs.Common.{is_significant_line, plain_changes, RoundedPrice, first_line, behind_line, has_line_end, PriceRule, Replacement}
use Rattle.rounding.proofs.Common.{common_steps}
use Rattle.rounding.proofs.Words.{second_both, second_taken, drop_more}
use Rattle.rounding.proofs.Spans.{IsCutIn, line_cut}

-- ---- a bid line

pub second_from : (l : List ℕ) (k : ℕ) → k ≡ length (before_second l) → take (length l - k) (drop k l) ≡ from_second l
second_from l k e = take_rest l k ∙ ap (λ n. drop n l) e ∙ front_rest l (before_second l) (from_second l) (sym (second_both l))

pub bid_line_text : (rule : PriceRule) (l word behind t0 t1 t2 t3 : List ℕ) (k : ℕ) (r : Replacement) → k ≡ length (before_second l)
    → word ≡ leading_word (take (length l - k) (drop k l)) → behind ≡ behind_word (take (length l - k) (drop k l)) → r ≡ replacement rule word
    → t1 ≡ t0 ++ take k l → t2 ≡ t1 ++ replacement_text word r → t3 ≡ t2 ++ behind → t3 ≡ t0 ++ with_rounded rule l
bid_line_text rule l word behind t0 t1 t2 t3 k r ek ew eb er e1 e2 e3 = grind (arith, common_steps, append_assoc, second_from, second_taken)

pub bid_line_change : (rule : PriceRule) (l word : List ℕ) (k number : ℕ) (r : Replacement) → k ≡ length (before_second l)
    → word ≡ leading_word (take (length l - k) (drop k l)) → r ≡ replacement rule word
    → change_by number word r ≡ change_by number (second_word l) (replacement rule (second_word l))
bid_line_change rule l word k number r ek ew er = grind (arith, common_steps, second_from)

pub no_change : (number : ℕ) (word : Word) (r : Replacement) → ((price : ℕ) → r ≡ Rounded price → ⊥) → change_by number word r ≡ []
no_change number word (Rounded p) h = absurd (h p refl)
no_change number word _ h = refl

pub change_pushed : (number price : ℕ) (word : Word) (r : Replacement) (p : RoundedPrice) (ps qs : List RoundedPrice) → qs ≡ ps ++ p ∷ []
    → p.line ≡ number → p.word.items ≡ word → p.price ≡ price → r ≡ Rounded price → plain_changes qs ≡ plain_changes ps ++ change_by number word r
change_pushed number price word r p ps qs eq el ew ep er = grind (arith, common_steps, map-append)

-- ---- the first line of a text

abbrev pub first_raw : List ℕ → RawLine
first_raw t = record { bytes = first_line t; ended = has_line_end t }

pub first_of_lines : (t : List ℕ) → 0 < length t → raw_lines t ≡ first_raw t ∷ raw_lines (behind_line t)
first_of_lines [] = λ (h : 0 < 0). absurd (omega arith)
first_of_lines (b ∷ []) = grind (arith, common_steps)
first_of_lines (b ∷ c ∷ cs) = grind (arith, common_steps, (first_of_lines (c ∷ cs)))

-- ---- one more line

-- where the line at a place ends, and where the next one begins
pub record IsCut (text line : List ℕ) (start end next : ℕ) (ended : Bool) : Type 0 where
  pub line_is : line ≡ first_line (drop start text)
  pub ended_is : ended ≡ has_line_end (drop start text)
  pub next_is : drop next text ≡ behind_line (drop start text)

pub cut_line : (text line : List ℕ) (start count next : ℕ) → start < length text → count ≡ length (first_line (take (length text - start) (drop start text)))
    → line ≡ take (start + count - start) (drop start text) → next ≡ min (length text) (start + count + 1)
    → IsCut text line start (start + count) next (ltb (start + count) (length text))
cut_line text line start count next l ec el en =
    let cut : IsCutIn (drop start text) (first_line (drop start text)) (behind_line (drop start text)) (has_line_end (drop start text)) =
    line_cut (drop start text) in
    let count_is : count ≡ length (first_line (drop start text)) = ec ∙ ap (λ (t : List ℕ). length (first_line t)) (take_rest text start) in
    let size : length (drop start text) ≡ length text - start = length-drop start text in
    let inside : length (first_line (drop start text)) ≤ length (drop start text) = cut.within in
    let width : start + count - start ≡ length (first_line (drop start text)) = omega arith in
    let line_is : line ≡ first_line (drop start text) = el ∙ ap (λ n. take n (drop start text)) width ∙ cut.taken in
    ⊎_elim
    (λ (s : start + count < length text).
    let is : next ≡ start + suc (length (first_line (drop start text))) = omega arith in
    record {
      line_is = line_is;
      ended_is = lt-ltb (start + count) (length text) s ∙ sym (cut.has (omega arith));
      next_is = ap (λ n. drop n text) is ∙ drop_more text start (suc (length (first_line (drop start text)))) ∙ cut.dropped (omega arith);
    })
    (λ (s : length text ≤ start + count). record {
      line_is = line_is;
      ended_is = le-ltb (start + count) (length text) s ∙ sym (cut.has_none (omega arith));
      next_is = drop_all next text (omega arith) ∙ sym (cut.none (omega arith));
    })
    (cases_lt (start + count) (length text))

-- what is written of a line
pub record IsLineWritten (rule : PriceRule) (before number : ℕ) (l : RawLine) (t0 t2 : List ℕ) (p0 p1 : List PlainRoundedPrice) : Type 0 where
  pub text_is : t2 ≡ t0 ++ line_text (rounded_line rule before l)
  pub prices_are : p1 ≡ p0 ++ line_changes rule number before l

pub line_written : (rule : PriceRule) (line t0 t1 t2 : List ℕ) (p0 p1 : List PlainRoundedPrice) (before number : ℕ) (significant is_bid ended : Bool)
    → significant ≡ is_significant (line_words (blank_returns line)) → is_bid ≡ (leb 3 before && significant)
    → t1 ≡ t0 ++ (if is_bid then with_rounded rule line else line) → t2 ≡ t1 ++ (if ended then 10 ∷ [] else [])
    → p1 ≡ p0 ++ (if is_bid then change_by number (second_word line) (replacement rule (second_word line)) else [])
    → IsLineWritten rule before number (record { bytes = line; ended = ended }) t0 t2 p0 p1
line_written rule line t0 t1 t2 p0 p1 before number significant is_bid ended es ei e1 e2 ep = grind (arith, common_steps, append_assoc)

pub next_before : (before : ℕ) (l : RawLine) (significant : Bool) (more : ℕ) → significant ≡ is_significant_line l → more ≡ (if significant then 1 else 0)
    → before + more ≡ before_next before l
next_before before l significant more es em = grind (arith, common_steps)

-- ---- one for true

pub one_or_none : (b : Bool) (n : ℕ) → n ≡ bool_byte b → n ≡ (if b then 1 else 0)
one_or_none true n h = h
one_or_none false n h = h

pub at_most : (b : Bool) (n : ℕ) → n ≡ bool_byte b → n ≤ 1
at_most true n h = omega arith
at_most false n h = omega arith
