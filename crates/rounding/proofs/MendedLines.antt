-- Texts line by line: one more line that is mended, and whether a line has to be mended.
use Rattle.rounding.proofs.Common.{if◌then◌else◌, ◌≡◌, ℕ, suc, ◌+◌, ◌<◌, ◌≤◌, Bool, true, false, ◌||◌, List, [], ◌∷◌, ◌++◌, length, drop, refl, sym, ap}
use Rattle.rounding.proofs.Common.{◌∙◌, add-one, arith, append_assoc, length-drop, drop_all, RawLine, raw_lines, behind_line, is_significant_line, before_next}
use Rattle.rounding.proofs.Common.{lines_text, line_text, common_steps, append-nil}
use Rattle.rounding.proofs.TextLines.{first_raw, first_of_lines, next_before}
use Rattle.rounding.specs.Layouts.{before_behind, line_mended, line_mends, lines_mends, lines_need_mending, mended_bytes, mended_lines, mended_places}
use Rattle.rounding.specs.Layouts.{mended_line, mended_text, needs_mending, put_in, with_put_in, dummy_line, lacks_dummy, put_in_at, mended_at, mend_of}
use Rattle.rounding.specs.declared.layout.MendedLine.{MendedLine}

-- ---- one more line that is mended

-- the lines before a place of a text were mended
pub record IsMendedTo (text : List ℕ) (start number before : ℕ) (written : List ℕ) (mends : List MendedLine) : Type 0 where
  pub text_is : written ++ lines_text (mended_lines before (raw_lines (drop start text))) ≡ mended_text text
  pub mends_are : mends ++ lines_mends number before (raw_lines (drop start text)) ≡ mended_places text

pub lines_joined : (ks ls : List RawLine) → lines_text (ks ++ ls) ≡ lines_text ks ++ lines_text ls
lines_joined [] ls = refl
lines_joined (k ∷ ks) ls = ap (λ (t : List ℕ). line_text k ++ t) (lines_joined ks ls) ∙ sym (append_assoc (line_text k) (lines_text ks) (lines_text ls))

joined_more : {A : Type 0} (a0 a1 x y all : List A) → a1 ≡ a0 ++ x → a0 ++ (x ++ y) ≡ all → a1 ++ y ≡ all
joined_more a0 a1 x y all e h = ap (λ a. a ++ y) e ∙ append_assoc a0 x y ∙ h

pub line_more : (text : List ℕ) (start next number before after : ℕ) (l : RawLine) (t0 t1 : List ℕ) (m0 m1 : List MendedLine) → start < length text
    → l ≡ first_raw (drop start text) → drop next text ≡ behind_line (drop start text) → t1 ≡ t0 ++ lines_text (line_mended before l)
    → m1 ≡ m0 ++ line_mends number before l → after ≡ before_behind before l → IsMendedTo text start number before t0 m0
    → IsMendedTo text next (number + 1) after t1 m1
line_more text start next number before after l t0 t1 m0 m1 some el en et em ea h =
    let rest : List RawLine = raw_lines (behind_line (drop start text)) in
    let split : raw_lines (drop start text) ≡ l ∷ rest = first_of_lines (drop start text) (omega (arith, some, length-drop start text))
    ∙ ap (λ (k : RawLine). k ∷ rest) (sym el) in
    record {
      text_is = ap (λ (t : List ℕ). t1 ++ lines_text (mended_lines after (raw_lines t))) en
          ∙ ap (λ n. t1 ++ lines_text (mended_lines n rest)) ea
          ∙ joined_more t0 t1 (lines_text (line_mended before l)) (lines_text (mended_lines (before_behind before l) rest)) (mended_text text) et
          (ap (λ (t : List ℕ). t0 ++ t) (sym (lines_joined (line_mended before l) (mended_lines (before_behind before l) rest))
          ∙ ap (λ (ls : List RawLine). lines_text (mended_lines before ls)) (sym split)) ∙ h.text_is);
      mends_are = ap (λ n. m1 ++ lines_mends n after (raw_lines (drop next text))) (add-one number)
          ∙ ap (λ (t : List ℕ). m1 ++ lines_mends (suc number) after (raw_lines t)) en
          ∙ ap (λ n. m1 ++ lines_mends (suc number) n rest) ea
          ∙ joined_more m0 m1 (line_mends number before l) (lines_mends (suc number) (before_behind before l) rest) (mended_places text) em
          (ap (λ (ms : List MendedLine). m0 ++ ms) (ap (lines_mends number before) (sym split)) ∙ h.mends_are);
    }

pub all_mended : (text : List ℕ) (start number before : ℕ) (t : List ℕ) (m : List MendedLine) → length text ≤ start
    → IsMendedTo text start number before t m → (t ≡ mended_text text) × (m ≡ mended_places text)
all_mended text start number before t m l h =
    let end : drop start text ≡ [] = drop_all start text l in (
      sym (append-nil t) ∙ ap (λ (rest : List ℕ). t ++ lines_text (mended_lines before (raw_lines rest))) (sym end) ∙ h.text_is,
      sym (append-nil m) ∙ ap (λ (rest : List ℕ). m ++ lines_mends number before (raw_lines rest)) (sym end) ∙ h.mends_are,
    )

-- ---- a line that is mended

put_in_text : (v : Bool) (ls : List RawLine) → lines_text ((if v then dummy_line ∷ [] else []) ++ ls)
    ≡ lines_text (if v then dummy_line ∷ [] else []) ++ lines_text ls
put_in_text v ls = lines_joined (if v then dummy_line ∷ [] else []) ls

pub line_written : (before behind : ℕ) (bytes t0 t1 t2 t3 : List ℕ) (ended : Bool) → behind ≡ with_put_in before bytes
    → t1 ≡ t0 ++ lines_text (put_in before bytes) → t2 ≡ t1 ++ mended_bytes behind bytes → t3 ≡ t2 ++ (if ended then 10 ∷ [] else [])
    → t3 ≡ t0 ++ lines_text (line_mended before (record { bytes = bytes; ended = ended }))
line_written before behind bytes t0 t1 t2 t3 ended eb e1 e2 e3 =
    let l : RawLine = record { bytes = bytes; ended = ended } in
    e3 ∙ ap (λ (t : List ℕ). t ++ (if ended then 10 ∷ [] else [])) (e2 ∙ ap (λ (t : List ℕ). t ++ mended_bytes behind bytes) e1)
    ∙ append_assoc (t0 ++ lines_text (put_in before bytes)) (mended_bytes behind bytes) (if ended then 10 ∷ [] else [])
    ∙ append_assoc t0 (lines_text (put_in before bytes)) (mended_bytes behind bytes ++ (if ended then 10 ∷ [] else []))
    ∙ ap (λ n. t0 ++ (lines_text (put_in before bytes) ++ line_text (mended_line n l))) eb
    ∙ ap (λ (t : List ℕ). t0 ++ (lines_text (put_in before bytes) ++ t)) (sym (append-nil (line_text (mended_line (with_put_in before bytes) l))))
    ∙ ap (λ (t : List ℕ). t0 ++ t) (sym (lines_joined (put_in before bytes) (mended_line (with_put_in before bytes) l ∷ [])))

pub line_noted : (number before behind : ℕ) (bytes : List ℕ) (ended : Bool) (m0 m1 m2 : List MendedLine) → behind ≡ with_put_in before bytes
    → m1 ≡ m0 ++ put_in_at number before bytes → m2 ≡ m1 ++ mended_at number (mend_of behind bytes)
    → m2 ≡ m0 ++ line_mends number before (record { bytes = bytes; ended = ended })
line_noted number before behind bytes ended m0 m1 m2 eb e1 e2 =
    e2 ∙ ap (λ (m : List MendedLine). m ++ mended_at number (mend_of behind bytes)) e1
    ∙ append_assoc m0 (put_in_at number before bytes) (mended_at number (mend_of behind bytes))
    ∙ ap (λ n. m0 ++ (put_in_at number before bytes ++ mended_at number (mend_of n bytes))) eb

pub line_counted : (before behind more : ℕ) (bytes : List ℕ) (ended significant : Bool) → behind ≡ with_put_in before bytes
    → significant ≡ is_significant_line (record { bytes = mended_bytes behind bytes; ended = true }) → more ≡ (if significant then 1 else 0)
    → behind + more ≡ before_behind before (record { bytes = bytes; ended = ended })
line_counted before behind more bytes ended significant eb es em =
    let l : RawLine = record { bytes = bytes; ended = ended } in
    next_before behind (mended_line behind l) significant more es em ∙ ap (λ n. before_next n (mended_line n l)) eb

-- ---- whether a line has to be mended

module _ (text : List ℕ) (start next before : ℕ) (l : start < length text) (en : drop next text ≡ behind_line (drop start text)) (value : Bool)
    (h : lines_need_mending before (raw_lines (drop start text)) ≡ value) where
  abbrev first : RawLine
  first = first_raw (drop start text)

  by_first : (needs_mending before first.bytes || lines_need_mending (before_next before first) (raw_lines (behind_line (drop start text)))) ≡ value
  by_first = ap (lines_need_mending before) (sym (first_of_lines (drop start text) (omega (arith, l, length-drop start text)))) ∙ h

  pub needless_more : (more : ℕ) (significant : Bool) → needs_mending before first.bytes ≡ false → significant ≡ is_significant_line first
      → more ≡ (if significant then 1 else 0) → lines_need_mending (before + more) (raw_lines (drop next text)) ≡ value
  needless_more more significant e es em = ap (λ (t : List ℕ). lines_need_mending (before + more) (raw_lines t)) en
      ∙ ap (λ n. lines_need_mending n (raw_lines (behind_line (drop start text)))) (next_before before first significant more es em)
      ∙ ap (λ v. v || lines_need_mending (before_next before first) (raw_lines (behind_line (drop start text)))) (sym e)
      ∙ by_first

  pub need_found : needs_mending before first.bytes ≡ true → true ≡ value
  need_found e = ap (λ v. v || lines_need_mending (before_next before first) (raw_lines (behind_line (drop start text)))) (sym e) ∙ by_first

pub none_needed : (text : List ℕ) (start before : ℕ) (value : Bool) → length text ≤ start
    → lines_need_mending before (raw_lines (drop start text)) ≡ value → false ≡ value
none_needed text start before value l h = ap (λ (t : List ℕ). lines_need_mending before (raw_lines t)) (sym (drop_all start text l)) ∙ h
