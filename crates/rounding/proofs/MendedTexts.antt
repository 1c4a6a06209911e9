-- A text that was mended has nothing to mend.
use Rattle.rounding.proofs.Common.{◌≡◌, ℕ, suc, ◌+◌, ◌<◌, ◌≤◌, Bool, true, false, not, ◌&&◌, ◌||◌, eqb, ltb, leb, List, [], ◌∷◌, ◌++◌, length, take, drop}
use Rattle.rounding.proofs.Common.{refl, sym, ap, ◌∙◌, subst, ⊎_elim, arith, common_steps, cases_Bool, both_ways, or_parts, or_from, and_parts, eqb-true}
use Rattle.rounding.proofs.Common.{le-ltb, lt-ltb, leb-true, ne_eqb, if◌then◌else◌, Word, RawLine, is_blank, line_byte, line_ends, raw_lines, blanks}
use Rattle.rounding.proofs.Common.{behind_blanks, leading_word, behind_word, before_next, codes, Some, None, has_line_end, append_assoc, length-append}
use Rattle.rounding.proofs.Common.{list_any-append}
use Rattle.rounding.proofs.Layouts.{IsKept, AreKept, kept_unnoted}
use Rattle.rounding.proofs.RoundedFiles.{AreLines, raw_are_lines, lines_of_text, three}
use Rattle.rounding.proofs.RoundedWords.{begins_here, ends_here, blanks_other, behind_word_ends, ended}
use Rattle.rounding.proofs.Spans.{blanks_both, word_both}
use Rattle.rounding.specs.Layouts.{keyword, is_other_spelling, begins_with_digit, begins_remark, is_remarked_end, before_end, lacks_dummy, mend_in_bid}
use Rattle.rounding.specs.Layouts.{mend_in_header, mend_by, mend_of, mended_by, mended_bytes, mended_line, dummy_line, mended_lines, mended_text}
use Rattle.rounding.specs.Layouts.{lines_mends, mended_places}
use Rattle.rounding.specs.declared.layout.Mend.{Mend}
use Rattle.rounding.specs.declared.layout.Mend.TheVariants.{Dummy, Keyword, Comment, Remark}
use Rattle.std.specs.Prelude.{Option}

-- ---- a bid line up to its end

abbrev is_end_behind : ℕ → List ℕ → Bool
is_end_behind b bs = is_blank (line_byte b bs) && is_remarked_end bs

abbrev up_to_end : List ℕ → List ℕ
up_to_end [] = []
up_to_end (b ∷ bs) = if is_end_behind b bs then b ∷ 35 ∷ [] else b ∷ up_to_end bs

-- an end with a remark begins with `#`
first_hash : (x : List ℕ) → is_remarked_end x ≡ true → (bs : List ℕ) × (x ≡ 35 ∷ bs)
first_hash [] e = absurd (cc)
first_hash (b ∷ bs) e = (bs, ap (λ c. c ∷ bs) (eqb-true b 35 (and_parts (eqb b 35) (ltb 0 (length (blanks bs)) && begins_remark (behind_blanks bs)) e).0))

taken_end : (l : List ℕ) → take (length (before_end l) + 2) l ≡ up_to_end l
taken_end [] = refl
taken_end (b ∷ bs) = ⊎_elim
    (λ (e : is_end_behind b bs ≡ true).
    let hash = first_hash bs (and_parts (is_blank (line_byte b bs)) (is_remarked_end bs) e).1 in
    ap (λ v. take (length (if v then [] else b ∷ before_end bs) + 2) (b ∷ bs)) e
    ∙ ap (λ (x : List ℕ). b ∷ take 1 x) hash.1
    ∙ sym (ap (λ v. if v then b ∷ 35 ∷ [] else b ∷ up_to_end bs) e))
    (λ (e : is_end_behind b bs ≡ false).
    let more : suc (length (before_end bs)) + 2 ≡ suc (length (before_end bs) + 2) = omega arith in
    ap (λ v. take (length (if v then [] else b ∷ before_end bs) + 2) (b ∷ bs)) e
    ∙ ap (λ n. take n (b ∷ bs)) more ∙ ap (λ (x : List ℕ). b ∷ x) (taken_end bs)
    ∙ sym (ap (λ v. if v then b ∷ 35 ∷ [] else b ∷ up_to_end bs) e))
    (cases_Bool (is_end_behind b bs))

same_ends : (l : List ℕ) → line_ends (up_to_end l) ≡ line_ends l
same_ends [] = refl
same_ends (b ∷ bs) = elim (is_end_behind b bs) as (λ v. line_ends (if v then b ∷ 35 ∷ [] else b ∷ up_to_end bs) ≡ eqb b 10) [ true ↦ refl | false ↦ refl ]

byte_by : (b : ℕ) (xs ys : List ℕ) → line_ends xs ≡ line_ends ys → line_byte b xs ≡ line_byte b ys
byte_by b xs ys e = ap (λ v. if (eqb b 13) && v then 32 else b) e

byte_before_end : (b : ℕ) (bs : List ℕ) → is_end_behind b bs ≡ true → line_byte b (35 ∷ []) ≡ line_byte b bs
byte_before_end b bs e = byte_by b (35 ∷ []) bs
    (sym (ap line_ends (first_hash bs (and_parts (is_blank (line_byte b bs)) (is_remarked_end bs) e).1).1))

-- whether the first byte is a blank
abbrev blank_first : List ℕ → Bool
blank_first [] = false
blank_first (b ∷ bs) = is_blank (line_byte b bs)

same_blank : (l : List ℕ) → blank_first (up_to_end l) ≡ blank_first l
same_blank [] = refl
same_blank (b ∷ bs) = ⊎_elim
    (λ (e : is_end_behind b bs ≡ true). ap (λ v. blank_first (if v then b ∷ 35 ∷ [] else b ∷ up_to_end bs)) e ∙ ap is_blank (byte_before_end b bs e))
    (λ (e : is_end_behind b bs ≡ false). ap (λ v. blank_first (if v then b ∷ 35 ∷ [] else b ∷ up_to_end bs)) e
    ∙ ap is_blank (byte_by b (up_to_end bs) bs (same_ends bs)))
    (cases_Bool (is_end_behind b bs))

some_blanks : (l : List ℕ) → ltb 0 (length (blanks l)) ≡ blank_first l
some_blanks [] = refl
some_blanks (b ∷ bs) = elim (is_blank (line_byte b bs)) as (λ v. ltb 0 (length (if v then b ∷ blanks bs else [])) ≡ v)
    [ true ↦ lt-ltb 0 (length (b ∷ blanks bs)) (omega arith) | false ↦ refl ]

-- behind the blanks the first byte is the same
same_first : (l : List ℕ) → take 1 (behind_blanks (up_to_end l)) ≡ take 1 (behind_blanks l)
same_first [] = refl
same_first (b ∷ bs) = ⊎_elim
    (λ (e : is_end_behind b bs ≡ true).
    let blank = (and_parts (is_blank (line_byte b bs)) (is_remarked_end bs) e).0 in
    let hash = first_hash bs (and_parts (is_blank (line_byte b bs)) (is_remarked_end bs) e).1 in
    ap (λ v. take 1 (behind_blanks (if v then b ∷ 35 ∷ [] else b ∷ up_to_end bs))) e
    ∙ ap (λ v. take 1 (if v then behind_blanks (35 ∷ []) else b ∷ 35 ∷ [])) (ap is_blank (byte_before_end b bs e) ∙ blank)
    ∙ sym (ap (λ v. take 1 (if v then behind_blanks bs else b ∷ bs)) blank ∙ ap (λ (x : List ℕ). take 1 (behind_blanks x)) hash.1))
    (λ (e : is_end_behind b bs ≡ false).
    ap (λ v. take 1 (behind_blanks (if v then b ∷ 35 ∷ [] else b ∷ up_to_end bs))) e
    ∙ ap (λ n. take 1 (if is_blank n then behind_blanks (up_to_end bs) else b ∷ up_to_end bs)) (byte_by b (up_to_end bs) bs (same_ends bs))
    ∙ elim (is_blank (line_byte b bs)) as (λ v. take 1 (if v then behind_blanks (up_to_end bs) else b ∷ up_to_end bs)
    ≡ take 1 (if v then behind_blanks bs else b ∷ bs)) [ true ↦ same_first bs | false ↦ refl ])
    (cases_Bool (is_end_behind b bs))

remark_by_first : (x : List ℕ) → begins_remark x ≡ begins_remark (take 1 x)
remark_by_first [] = refl
remark_by_first (b ∷ bs) = refl

same_remark : (l : List ℕ) → begins_remark (behind_blanks (up_to_end l)) ≡ begins_remark (behind_blanks l)
same_remark l = remark_by_first (behind_blanks (up_to_end l)) ∙ ap begins_remark (same_first l) ∙ sym (remark_by_first (behind_blanks l))

and_false : (a b : Bool) → b ≡ false → (a && b) ≡ false
and_false true b e = e
and_false false b e = refl

end_stays : (l : List ℕ) → is_remarked_end (up_to_end l) ≡ true → is_remarked_end l ≡ true
end_stays [] h = h
end_stays (b ∷ bs) h = ⊎_elim
    (λ (e : is_end_behind b bs ≡ true). absurd (both_ways (eqb b 35 && false) (and_false (eqb b 35) false refl)
    (sym (ap (λ v. is_remarked_end (if v then b ∷ 35 ∷ [] else b ∷ up_to_end bs)) e) ∙ h)))
    (λ (e : is_end_behind b bs ≡ false).
    ap (λ v. eqb b 35 && (v && begins_remark (behind_blanks bs))) (some_blanks bs ∙ sym (same_blank bs) ∙ sym (some_blanks (up_to_end bs)))
    ∙ ap (λ v. eqb b 35 && (ltb 0 (length (blanks (up_to_end bs))) && v)) (sym (same_remark bs))
    ∙ sym (ap (λ v. is_remarked_end (if v then b ∷ 35 ∷ [] else b ∷ up_to_end bs)) e) ∙ h)
    (cases_Bool (is_end_behind b bs))

-- no end with a remark is left
end_whole : (l : List ℕ) → before_end (up_to_end l) ≡ up_to_end l
end_whole [] = refl
end_whole (b ∷ bs) = ⊎_elim
    (λ (e : is_end_behind b bs ≡ true).
    let up : up_to_end (b ∷ bs) ≡ b ∷ 35 ∷ [] = ap (λ v. if v then b ∷ 35 ∷ [] else b ∷ up_to_end bs) e in
    ap before_end up ∙ ap (λ v. if v then [] else b ∷ 35 ∷ []) (and_false (is_blank (line_byte b (35 ∷ []))) false refl) ∙ sym up)
    (λ (e : is_end_behind b bs ≡ false).
    let up : up_to_end (b ∷ bs) ≡ b ∷ up_to_end bs = ap (λ v. if v then b ∷ 35 ∷ [] else b ∷ up_to_end bs) e in
    ap before_end up ∙ ap (λ v. if v then [] else b ∷ before_end (up_to_end bs)) (none_here e)
    ∙ ap (λ (x : List ℕ). b ∷ x) (end_whole bs) ∙ sym up)
    (cases_Bool (is_end_behind b bs))
  where
    none_here : is_end_behind b bs ≡ false → is_end_behind b (up_to_end bs) ≡ false
    none_here e = ⊎_elim
        (λ (t : is_end_behind b (up_to_end bs) ≡ true).
        let parts = and_parts (is_blank (line_byte b (up_to_end bs))) (is_remarked_end (up_to_end bs)) t in
        let blank : is_blank (line_byte b bs) ≡ true = ap is_blank (sym (byte_by b (up_to_end bs) bs (same_ends bs))) ∙ parts.0 in
        absurd (both_ways (is_end_behind b bs) e (ap (λ v. v && is_remarked_end bs) blank ∙ end_stays bs parts.1)))
        (λ (t : is_end_behind b (up_to_end bs) ≡ false). t)
        (cases_Bool (is_end_behind b (up_to_end bs)))

uncut : (l : List ℕ) → mend_in_bid (up_to_end l) ≡ None
uncut l = ap (λ v. if v then Some Remark else None)
    (le-ltb (length (before_end (up_to_end l))) (length (up_to_end l)) (omega (arith, ap (λ (t : List ℕ). length t) (end_whole l))))

up_no_end : (l : List ℕ) → has_line_end l ≡ false → has_line_end (up_to_end l) ≡ false
up_no_end [] h = refl
up_no_end (b ∷ bs) h =
    let parts = or_parts (eqb b 10) (has_line_end bs) h in
    elim (is_end_behind b bs) as (λ v. has_line_end (if v then b ∷ 35 ∷ [] else b ∷ up_to_end bs) ≡ false)
    [ true ↦ or_from (eqb b 10) false parts.0 refl | false ↦ or_from (eqb b 10) (has_line_end (up_to_end bs)) parts.0 (up_no_end bs parts.1) ]

up_some : (l : List ℕ) → 0 < length l → 0 < length (up_to_end l)
up_some [] h = h
up_some (b ∷ bs) h = elim (is_end_behind b bs) as (λ v. 0 < length (if v then b ∷ 35 ∷ [] else b ∷ up_to_end bs)) [ true ↦ omega arith | false ↦ omega arith ]

-- ---- keywords

each_keyword : (P : Word → Type 0) → P (codes "goods") → P (codes "bids") → P (codes "dummy") → (before : ℕ) → P (keyword before)
each_keyword P a b c before = elim (eqb before 0) as (λ v. P (if v then codes "goods" else (if eqb before 1 then codes "bids" else codes "dummy")))
    [ true ↦ a | false ↦ elim (eqb before 1) as (λ v. P (if v then codes "bids" else codes "dummy")) [ true ↦ b | false ↦ c ] ]

-- what is known of a keyword in front of other bytes
record IsKeyword (w : Word) : Type 0 where
  pub begins : (t : List ℕ) → begins_here (w ++ t) ≡ true
  pub goes_on : (t : List ℕ) → line_ends (w ++ t) ≡ false
  pub leads : (t : List ℕ) → ends_here t ≡ true → leading_word (w ++ t) ≡ w
  pub spelled : is_other_spelling w w ≡ false
  pub mends : (before : ℕ) (u t : List ℕ) → mend_by before u (w ++ t) ≡ (if leb 3 before then mend_in_bid u else mend_in_header before (leading_word (w ++ t)))
  pub letter : (t : List ℕ) → begins_with_digit (w ++ t) ≡ false
  pub line : has_line_end w ≡ false
  pub some : 0 < length w

is_keyword : (before : ℕ) → IsKeyword (keyword before)
is_keyword = each_keyword IsKeyword
    (record {
      begins = λ t. refl;
      goes_on = λ t. refl;
      leads = λ t e. ap (λ (w : Word). codes "goods" ++ w) (ended t e).0;
      spelled = refl;
      mends = λ n u t. refl;
      letter = λ t. refl;
      line = refl;
      some = omega arith;
    })
    (record {
      begins = λ t. refl;
      goes_on = λ t. refl;
      leads = λ t e. ap (λ (w : Word). codes "bids" ++ w) (ended t e).0;
      spelled = refl;
      mends = λ n u t. refl;
      letter = λ t. refl;
      line = refl;
      some = omega arith;
    })
    (record {
      begins = λ t. refl;
      goes_on = λ t. refl;
      leads = λ t e. ap (λ (w : Word). codes "dummy" ++ w) (ended t e).0;
      spelled = refl;
      mends = λ n u t. refl;
      letter = λ t. refl;
      line = refl;
      some = omega arith;
    })

-- ---- what was found in a line

-- the mend of a line by its tests
abbrev by_tests : Bool → Bool → Bool → Bool → Bool → Option Mend
by_tests comment hash bid remarked spelled = if comment then None else (if hash then Some Comment
    else (if bid then (if remarked then Some Remark else None) else (if spelled then Some Keyword else None)))

no_dummy : (a b c r k : Bool) → by_tests a b c r k ≡ Some Dummy → ⊥
no_dummy true b c r k e = cc
no_dummy false true c r k e = cc
no_dummy false false true true k e = cc
no_dummy false false true false k e = cc
no_dummy false false false r true e = cc
no_dummy false false false r false e = cc

comment_tests : (a b c r k : Bool) → by_tests a b c r k ≡ Some Comment → b ≡ true
comment_tests true b c r k e = absurd (cc)
comment_tests false true c r k e = refl
comment_tests false false true true k e = absurd (cc)
comment_tests false false true false k e = absurd (cc)
comment_tests false false false r true e = absurd (cc)
comment_tests false false false r false e = absurd (cc)

keyword_tests : (a b c r k : Bool) → by_tests a b c r k ≡ Some Keyword → c ≡ false
keyword_tests true b c r k e = absurd (cc)
keyword_tests false true c r k e = absurd (cc)
keyword_tests false false true true k e = absurd (cc)
keyword_tests false false true false k e = absurd (cc)
keyword_tests false false false r true e = refl
keyword_tests false false false r false e = absurd (cc)

remark_tests : (a b c r k : Bool) → by_tests a b c r k ≡ Some Remark → (b ≡ false) × (c ≡ true)
remark_tests true b c r k e = absurd (cc)
remark_tests false true c r k e = absurd (cc)
remark_tests false false true r k e = (refl, refl)
remark_tests false false false r true e = absurd (cc)
remark_tests false false false r false e = absurd (cc)

-- ---- a line that was mended

-- it has nothing to mend, and is a line if it was one
pub record IsDone (before : ℕ) (l u : List ℕ) : Type 0 where
  pub kept : IsKept before u
  pub line : has_line_end u ≡ false
  pub some : 0 < length l → 0 < length u

-- a mended line by the bytes behind its first blanks
module _ (before : ℕ) (l : List ℕ) (line : has_line_end l ≡ false) where
  parts : (has_line_end (blanks l) ≡ false) × (has_line_end (behind_blanks l) ≡ false)
  parts = or_parts (has_line_end (blanks l)) (has_line_end (behind_blanks l))
      (sym (list_any-append (λ b. eqb b 10) (blanks l) (behind_blanks l)) ∙ ap has_line_end (blanks_both l) ∙ line)

  -- with other bytes behind the first blanks
  other : (u z : List ℕ) → u ≡ blanks l ++ z → line_ends z ≡ line_ends (behind_blanks l) → begins_here z ≡ true → begins_with_digit z ≡ false
      → mend_by before u z ≡ None → has_line_end z ≡ false → 0 < length z → IsDone before l u
  other u z e ends begins letter none feed some =
      let behind : behind_blanks u ≡ z = ap behind_blanks e ∙ blanks_other l z ends begins in
      record {
        kept = record {
          whole = and_false (eqb before 2) (begins_with_digit (behind_blanks u)) (ap begins_with_digit behind ∙ letter);
          unmended = ap (mend_by before u) behind ∙ none;
        };
        line = ap has_line_end e ∙ list_any-append (λ b. eqb b 10) (blanks l) z ∙ or_from (has_line_end (blanks l)) (has_line_end z) parts.0 feed;
        some = λ (h : 0 < length l). omega (arith, some, ap (λ (t : List ℕ). length t) e, length-append (blanks l) z);
      }

  goes_on : (b : ℕ) (bs : List ℕ) → behind_blanks l ≡ b ∷ bs → line_ends (behind_blanks l) ≡ false
  goes_on b bs e = ap line_ends e ∙ (or_parts (eqb b 10) (has_line_end bs) (sym (ap has_line_end e) ∙ parts.1)).0

  commented : (x : List ℕ) → behind_blanks l ≡ x → mend_by before l x ≡ Some Comment → IsDone before l (blanks l ++ codes "%" ++ drop 1 (behind_blanks l))
  commented [] e m = absurd (cc)
  commented (b ∷ bs) e m =
      let feed : has_line_end bs ≡ false = (or_parts (eqb b 10) (has_line_end bs) (sym (ap has_line_end e) ∙ parts.1)).1 in
      other (blanks l ++ codes "%" ++ drop 1 (behind_blanks l)) (37 ∷ bs)
      (append_assoc (blanks l) (codes "%") (drop 1 (behind_blanks l)) ∙ ap (λ (t : List ℕ). blanks l ++ 37 ∷ drop 1 t) e)
      (sym (goes_on b bs e)) refl refl refl feed (omega arith)

  respelled : (x : List ℕ) → behind_blanks l ≡ x → mend_by before l x ≡ Some Keyword
      → IsDone before l (blanks l ++ keyword before ++ behind_word (behind_blanks l))
  respelled [] e m = absurd (cc)
  respelled (b ∷ bs) e m =
      let few : leb 3 before ≡ false = keyword_tests (eqb b 37) (eqb b 35) (leb 3 before) (ltb (length (before_end l)) (length l))
      (is_other_spelling (leading_word (b ∷ bs)) (keyword before)) m in
      let k : IsKeyword (keyword before) = is_keyword before in
      let y : List ℕ = behind_blanks l in
      let t : List ℕ = behind_word y in
      let u : List ℕ = blanks l ++ keyword before ++ t in
      let feed : has_line_end t ≡ false = (or_parts (has_line_end (leading_word y)) (has_line_end t)
      (sym (list_any-append (λ b. eqb b 10) (leading_word y) t) ∙ ap has_line_end (word_both y) ∙ parts.1)).1 in
      other u (keyword before ++ t) (append_assoc (blanks l) (keyword before) t) (k.goes_on t ∙ sym (goes_on b bs e)) (k.begins t) (k.letter t)
      (k.mends before u t ∙ ap (λ v. if v then mend_in_bid u else mend_in_header before (leading_word (keyword before ++ t))) few
      ∙ ap (mend_in_header before) (k.leads t (behind_word_ends y)) ∙ ap (λ v. if v then Some Keyword else None) k.spelled)
      (list_any-append (λ b. eqb b 10) (keyword before) t ∙ or_from (has_line_end (keyword before)) (has_line_end t) k.line feed)
      (omega (arith, k.some, length-append (keyword before) t))

  cut : (x : List ℕ) → behind_blanks l ≡ x → mend_by before l x ≡ Some Remark → IsDone before l (take (length (before_end l) + 2) l)
  cut [] e m = absurd (cc)
  cut (b ∷ bs) e m =
      let tests = remark_tests (eqb b 37) (eqb b 35) (leb 3 before) (ltb (length (before_end l)) (length l))
      (is_other_spelling (leading_word (b ∷ bs)) (keyword before)) m in
      let many : 3 ≤ before = leb-true 3 before tests.1 in
      subst (IsDone before l) (sym (taken_end l)) (record {
        kept = record {
          whole = ap (λ v. v && begins_with_digit (behind_blanks (up_to_end l))) (ne_eqb before 2 (λ t. omega (arith, many, t)));
          unmended = by_first (behind_blanks (up_to_end l)) b (same_first l ∙ ap (take 1) e) tests.0 tests.1;
        };
        line = up_no_end l line;
        some = up_some l;
      })
    where
      by_bools : (a c d : Bool) (k : Option Mend) → c ≡ false → d ≡ true
          → (if a then None else (if c then Some Comment else (if d then mend_in_bid (up_to_end l) else k))) ≡ None
      by_bools true c d k ec ed = refl
      by_bools false true d k ec ed = absurd (cc)
      by_bools false false true k ec ed = uncut l
      by_bools false false false k ec ed = absurd (cc)

      by_first : (x : List ℕ) (b : ℕ) → take 1 x ≡ b ∷ [] → eqb b 35 ≡ false → leb 3 before ≡ true → mend_by before (up_to_end l) x ≡ None
      by_first [] b e hash many = refl
      by_first (c ∷ cs) b e hash many =
          let same : c ≡ b = cc in
          by_bools (eqb c 37) (eqb c 35) (leb 3 before) (mend_in_header before (leading_word (c ∷ cs))) (ap (λ n. eqb n 35) same ∙ hash) many

  done_by : lacks_dummy before l ≡ false → (m : Option Mend) → mend_of before l ≡ m → IsDone before l (mended_by m before l)
  done_by whole None e = record { kept = record { whole = whole; unmended = e }; line = line; some = λ h. h }
  done_by whole (Some Dummy) e = absurd (never (behind_blanks l) e)
    where
      never : (x : List ℕ) → mend_by before l x ≡ Some Dummy → ⊥
      never [] m = cc
      never (b ∷ bs) m = no_dummy (eqb b 37) (eqb b 35) (leb 3 before) (ltb (length (before_end l)) (length l))
          (is_other_spelling (leading_word (b ∷ bs)) (keyword before)) m
  done_by whole (Some Comment) e = commented (behind_blanks l) refl e
  done_by whole (Some Keyword) e = respelled (behind_blanks l) refl e
  done_by whole (Some Remark) e = cut (behind_blanks l) refl e

  pub line_done : lacks_dummy before l ≡ false → IsDone before l (mended_bytes before l)
  line_done whole = done_by whole (mend_of before l) refl

-- ---- lines that were mended

abbrev AreDone : ℕ → List RawLine → Type 0
AreDone before ls = AreKept before ls × AreLines ls

done_first : (before : ℕ) (l : RawLine) (ls rest : List RawLine) → AreLines (l ∷ ls) → (ls ≡ [] → rest ≡ []) → lacks_dummy before l.bytes ≡ false
    → AreDone (before_next before (mended_line before l)) rest → AreDone before (mended_line before l ∷ rest)
done_first before l ls rest h none whole done =
    let d = line_done before l.bytes h.0 whole in (
      (d.kept, done.0),
      (d.line, (λ (u : l.ended ≡ false). (none (h.1 u).0, d.some (h.1 u).1)), done.1),
    )

-- the mended lines by whether the line `dummy` is missing before the first
abbrev lines_by : ℕ → RawLine → List RawLine → Bool → List RawLine
lines_by before l ls v = ((if v then dummy_line ∷ [] else []) ++ mended_line (before + length (if v then dummy_line ∷ [] else [])) l ∷ [])
    ++ mended_lines (before_next (before + length (if v then dummy_line ∷ [] else []))
    (mended_line (before + length (if v then dummy_line ∷ [] else [])) l)) ls

no_lines : (before : ℕ) (ls : List RawLine) → ls ≡ [] → mended_lines before ls ≡ []
no_lines before ls e = ap (mended_lines before) e

lines_done : (before : ℕ) (ls : List RawLine) → AreLines ls → AreDone before (mended_lines before ls)
lines_done before [] h = (tt, tt)
lines_done before (l ∷ ls) h = ⊎_elim
    (λ (t : lacks_dummy before l.bytes ≡ true).
    let two : before ≡ 2 = eqb-true before 2 (and_parts (eqb before 2) (begins_with_digit (behind_blanks l.bytes)) t).0 in
    let next : ℕ = before_next 3 (mended_line 3 l) in
    let first : AreDone 3 (mended_line 3 l ∷ mended_lines next ls) =
    done_first 3 l ls (mended_lines next ls) h (no_lines next ls) refl (lines_done next ls h.2) in
    let all : AreDone 2 (lines_by 2 l ls true) =
    ((record { whole = refl; unmended = refl }, first.0), (refl, (λ (u : true ≡ false). absurd (both_ways true u refl)), first.1)) in
    subst (AreDone before) (sym (ap (lines_by before l ls) t)) (subst (λ n. AreDone n (lines_by n l ls true)) (sym two) all))
    (λ (t : lacks_dummy before l.bytes ≡ false).
    let plus : before + length {A = RawLine} [] ≡ before = omega arith in
    let next : ℕ = before_next before (mended_line before l) in
    let first : AreDone before (mended_line before l ∷ mended_lines next ls) =
    done_first before l ls (mended_lines next ls) h (no_lines next ls) t (lines_done next ls h.2) in
    subst (AreDone before) (sym (ap (lines_by before l ls) t
    ∙ ap (λ n. mended_line n l ∷ mended_lines (before_next n (mended_line n l)) ls) plus)) first)
    (cases_Bool (lacks_dummy before l.bytes))

pub mended_unmended : (text : List ℕ) → mended_places (mended_text text) ≡ []
mended_unmended text =
    let done = lines_done 0 (raw_lines text) (raw_are_lines text) in
    ap (lines_mends 1 0) (lines_of_text (mended_lines 0 (raw_lines text)) done.1) ∙ kept_unnoted 1 0 (mended_lines 0 (raw_lines text)) done.0
