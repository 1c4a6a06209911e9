-- Lines that have nothing to mend: those of a text without mends, and those of a bid file.
use Rattle.rounding.proofs.Common.{◌≡◌, ℕ, suc, ◌+◌, ◌<◌, ◌≤◌, Bool, true, false, not, ◌&&◌, ◌||◌, eqb, ltb, leb, List, [], ◌∷◌, ◌++◌, length}
use Rattle.rounding.proofs.Common.{refl, sym, ap, ◌∙◌, subst, ⊎_elim, arith, common_steps, cases_Bool, both_ways, or_parts, and_parts, ne_eqb, eqb-true}
use Rattle.rounding.proofs.Common.{leb-true, le-leb, le-ltb, if◌then◌else◌, AllByRecursion, Word, RawLine, is_blank, line_byte, raw_lines, blanks}
use Rattle.rounding.proofs.Common.{is_significant, is_number, is_digit, is_price, digits_alone, codes, Some, None, Spells, SpellsBid, PlainFile}
use Rattle.rounding.proofs.Common.{behind_blanks, leading_word, behind_word, is_significant_line, before_next, lines_text}
use Rattle.rounding.proofs.FileLines.{line_of, split_first, words_split, head_word, words_from, words_more, words_same, significant_from}
use Rattle.rounding.proofs.FileLines.{first_word, behind_letter, leading_letter, behind_blank, text_of_lines}
use Rattle.rounding.proofs.RoundedWords.{begins_here, behind_blanks_begins}
use Rattle.rounding.proofs.Words.{begins, significant_line}
use Rattle.rounding.specs.Layouts.{begins_with_digit, begins_remark, is_remarked_end, before_end, lacks_dummy, mend_in_bid}
use Rattle.rounding.specs.Layouts.{mend_in_header, mend_by, mend_of, mended_by, mended_line, dummy_line, put_in, with_put_in, mended_lines, needs_mending}
use Rattle.rounding.specs.Layouts.{line_mended, line_mends, before_behind, lines_need_mending, has_mends, mended_text, put_in_at}
use Rattle.rounding.specs.Layouts.{mended_at, lines_mends, mended_places}
use Rattle.rounding.specs.declared.layout.Mend.{Mend}
use Rattle.rounding.specs.declared.layout.Mend.TheVariants.{Dummy, Remark}
use Rattle.rounding.specs.declared.layout.MendedLine.{MendedLine}
use Rattle.std.specs.Prelude.{Option, is_some}

-- ---- lines that have nothing to mend

-- nothing is put in before the line, and nothing is mended in it
pub record IsKept (before : ℕ) (bytes : List ℕ) : Type 0 where
  pub whole : lacks_dummy before bytes ≡ false
  pub unmended : mend_of before bytes ≡ None

abbrev pub AreKept : ℕ → List RawLine → Type 0
AreKept before [] = Unit {0}
AreKept before (l ∷ ls) = IsKept before l.bytes × AreKept (before_next before l) ls

-- what a line becomes by what is put in before it and what is mended in it
abbrev line_by : ℕ → Bool → Option Mend → RawLine → List RawLine
line_by before lacks m l = (if lacks then dummy_line ∷ [] else [])
    ++ record { bytes = mended_by m (before + length (if lacks then dummy_line ∷ [] else [])) l.bytes; ended = l.ended } ∷ []

pub nothing_put_in : (before : ℕ) (bytes : List ℕ) → lacks_dummy before bytes ≡ false → with_put_in before bytes ≡ before
nothing_put_in before bytes e = ap (λ v. before + length (if v then dummy_line ∷ [] else [])) e ∙ plus_none before
  where
    plus_none : (n : ℕ) → n + length {A = RawLine} [] ≡ n
    plus_none n = omega arith

-- of a line before which no line is put in
module _ (before : ℕ) (l : RawLine) (whole : lacks_dummy before l.bytes ≡ false) where
  same : with_put_in before l.bytes ≡ before
  same = nothing_put_in before l.bytes whole

  pub line_alone : line_mended before l ≡ mended_line before l ∷ []
  line_alone = ap (λ v. (if v then dummy_line ∷ [] else []) ++ mended_line (with_put_in before l.bytes) l ∷ []) whole
      ∙ ap (λ n. mended_line n l ∷ []) same

  pub next_alone : before_behind before l ≡ before_next before (mended_line before l)
  next_alone = ap (λ n. before_next n (mended_line n l)) same

  pub mend_alone : (number : ℕ) → line_mends number before l ≡ mended_at number (mend_of before l.bytes)
  mend_alone number = ap (λ v. (if v then mended_at number (Some Dummy) else []) ++ mended_at number (mend_of (with_put_in before l.bytes) l.bytes)) whole
      ∙ ap (λ n. mended_at number (mend_of n l.bytes)) same

  module _ (unmended : mend_of before l.bytes ≡ None) where
    pub read_same : mended_line before l ≡ l
    read_same = ap (λ (m : Option Mend). record { bytes = mended_by m before l.bytes; ended = l.ended }) unmended

    pub line_kept : line_mended before l ≡ l ∷ []
    line_kept = line_alone ∙ ap (λ (k : RawLine). k ∷ []) read_same

    pub next_kept : before_behind before l ≡ before_next before l
    next_kept = next_alone ∙ ap (before_next before) read_same

    pub mends_kept : (number : ℕ) → line_mends number before l ≡ []
    mends_kept number = mend_alone number ∙ ap (mended_at number) unmended

pub kept_lines : (before : ℕ) (ls : List RawLine) → AreKept before ls → mended_lines before ls ≡ ls
kept_lines before [] h = refl
kept_lines before (l ∷ ls) h = ap (λ (ks : List RawLine). ks ++ mended_lines (before_behind before l) ls) (line_kept before l h.0.whole h.0.unmended)
    ∙ ap (λ n. l ∷ mended_lines n ls) (next_kept before l h.0.whole h.0.unmended)
    ∙ ap (λ (ks : List RawLine). l ∷ ks) (kept_lines (before_next before l) ls h.1)

pub kept_unnoted : (number before : ℕ) (ls : List RawLine) → AreKept before ls → lines_mends number before ls ≡ []
kept_unnoted number before [] h = refl
kept_unnoted number before (l ∷ ls) h =
    ap (λ (ms : List MendedLine). ms ++ lines_mends (suc number) (before_behind before l) ls) (mends_kept before l h.0.whole h.0.unmended number)
    ∙ ap (λ n. lines_mends (suc number) n ls) (next_kept before l h.0.whole h.0.unmended)
    ∙ kept_unnoted (suc number) (before_next before l) ls h.1

-- ---- a text without mends

noted_dummy : (v : Bool) (number : ℕ) (more rest : List MendedLine)
    → ((if v then mended_at number (Some Dummy) else []) ++ more) ++ rest ≡ [] → (v ≡ false) × (more ++ rest ≡ [])
noted_dummy true number more rest e = absurd (cc)
noted_dummy false number more rest e = (refl, e)

noted_mend : (m : Option Mend) (number : ℕ) (rest : List MendedLine) → mended_at number m ++ rest ≡ [] → (m ≡ None) × (rest ≡ [])
noted_mend None number rest e = (refl, e)
noted_mend (Some mend) number rest e = absurd (cc)

unnoted_kept : (number before : ℕ) (ls : List RawLine) → lines_mends number before ls ≡ [] → AreKept before ls
unnoted_kept number before [] e = tt
unnoted_kept number before (l ∷ ls) e =
    let first = noted_dummy (lacks_dummy before l.bytes) number (mended_at number (mend_of (with_put_in before l.bytes) l.bytes))
    (lines_mends (suc number) (before_behind before l) ls) e in
    let second = noted_mend (mend_of (with_put_in before l.bytes) l.bytes) number (lines_mends (suc number) (before_behind before l) ls) first.1 in
    let unmended : mend_of before l.bytes ≡ None = sym (ap (λ n. mend_of n l.bytes) (nothing_put_in before l.bytes first.0)) ∙ second.0 in (
      record { whole = first.0; unmended = unmended },
      unnoted_kept (suc number) (before_next before l) ls
          (ap (λ n. lines_mends (suc number) n ls) (sym (next_kept before l first.0 unmended)) ∙ second.1),
    )

pub kept_text : (text : List ℕ) → AreKept 0 (raw_lines text) → mended_text text ≡ text
kept_text text h = ap lines_text (kept_lines 0 (raw_lines text) h) ∙ text_of_lines text

pub without_mends : (text : List ℕ) → mended_places text ≡ [] → mended_text text ≡ text
without_mends text e = kept_text text (unnoted_kept 1 0 (raw_lines text) e)

not_some : (m : Option Mend) → is_some m ≡ false → m ≡ None
not_some None e = refl
not_some (Some m) e = absurd (cc)

needless_kept : (before : ℕ) (ls : List RawLine) → lines_need_mending before ls ≡ false → AreKept before ls
needless_kept before [] e = tt
needless_kept before (l ∷ ls) e =
    let parts = or_parts (needs_mending before l.bytes) (lines_need_mending (before_next before l) ls) e in
    let line = or_parts (lacks_dummy before l.bytes) (is_some (mend_of before l.bytes)) parts.0 in (
      record { whole = line.0; unmended = not_some (mend_of before l.bytes) line.1 },
      needless_kept (before_next before l) ls parts.1,
    )

pub needless_text : (text : List ℕ) → has_mends text ≡ false → mended_text text ≡ text
needless_text text e = kept_text text (needless_kept 0 (raw_lines text) e)

pub needless_mends : (text : List ℕ) → has_mends text ≡ false → mended_places text ≡ []
needless_mends text e = kept_unnoted 1 0 (raw_lines text) (needless_kept 0 (raw_lines text) e)

-- ---- the first byte of a line

first_byte : (x : List ℕ) (c : ℕ) (cs : Word) → begins_here x ≡ true → leading_word x ≡ c ∷ cs → (bs : List ℕ) × (x ≡ c ∷ bs)
first_byte [] c cs b e = absurd (cc)
first_byte (d ∷ ds) c cs b e =
    let letter : is_blank (line_byte d ds) ≡ false = not_true (is_blank (line_byte d ds)) b in
    let is : d ∷ leading_word ds ≡ c ∷ cs = sym (leading_letter d ds letter) ∙ e in
    let same : d ≡ c = cc in
    (ds, ap (λ k. k ∷ ds) same)
  where
    not_true : (v : Bool) → not v ≡ true → v ≡ false
    not_true true e = absurd (cc)
    not_true false e = refl

line_begins : (l : List ℕ) (c : ℕ) (cs : Word) (ws : List Word) → line_of l ≡ (c ∷ cs) ∷ ws
    → (bs : List ℕ) × (behind_blanks l ≡ c ∷ bs) × (leading_word (c ∷ bs) ≡ c ∷ cs)
line_begins l c cs ws e =
    let word : leading_word (behind_blanks l) ≡ c ∷ cs = head_word (behind_blanks l) (c ∷ cs) ws (sym (words_split l) ∙ e) in
    let found = first_byte (behind_blanks l) c cs (behind_blanks_begins l) word in
    (found.0, found.1, ap leading_word (sym found.1) ∙ word)

-- ---- header lines

goods_kept : (l : List ℕ) (ws : List Word) → line_of l ≡ codes "goods" ∷ ws → IsKept 0 l
goods_kept l ws e =
    let b = line_begins l 103 (codes "oods") ws e in
    record { whole = refl; unmended = ap (mend_by 0 l) b.1 ∙ ap (mend_in_header 0) b.2 }

bids_kept : (l : List ℕ) (ws : List Word) → line_of l ≡ codes "bids" ∷ ws → IsKept 1 l
bids_kept l ws e =
    let b = line_begins l 98 (codes "ids") ws e in
    record { whole = refl; unmended = ap (mend_by 1 l) b.1 ∙ ap (mend_in_header 1) b.2 }

dummy_kept : (l : List ℕ) (ws : List Word) → line_of l ≡ codes "dummy" ∷ ws → IsKept 2 l
dummy_kept l ws e =
    let b = line_begins l 100 (codes "ummy") ws e in
    record { whole = ap begins_with_digit b.1; unmended = ap (mend_by 2 l) b.1 ∙ ap (mend_in_header 2) b.2 }

-- ---- bid lines

abbrev is_hash : Word → Bool
is_hash [] = false
is_hash (b ∷ []) = eqb b 35
is_hash (b ∷ c ∷ cs) = false

abbrev has_words : List Word → Bool
has_words [] = false
has_words (w ∷ ws) = true

-- no word is behind a word `#`
abbrev is_ended : List Word → Bool
is_ended [] = true
is_ended (w ∷ ws) = not (is_hash w && has_words ws) && is_ended ws

ended_rest : (w : Word) (ws : List Word) → is_ended (w ∷ ws) ≡ true → is_ended ws ≡ true
ended_rest w ws e = (and_parts (not (is_hash w && has_words ws)) (is_ended ws) e).1

remark_blank : (bs : List ℕ) → 0 < length (blanks bs) → (leading_word bs ≡ []) × (behind_word bs ≡ bs)
remark_blank [] h = absurd (omega (arith, h))
remark_blank (b ∷ bs) h = grind (arith, common_steps)

remark_words : (x : List ℕ) → begins_remark x ≡ true → has_words (split_first x) ≡ true
remark_words [] e = absurd (cc)
remark_words (b ∷ bs) e = refl

ltb_less : (a b : ℕ) → ltb a b ≡ true → a < b
ltb_less a b e = grind (arith, common_steps)

-- the words of a line at an end that has a remark
remarked : (bs : List ℕ) → is_remarked_end bs ≡ true → is_ended (line_of bs) ≡ false
remarked [] e = absurd (cc)
remarked (b ∷ bs) e =
    let parts = and_parts (eqb b 35) (ltb 0 (length (blanks bs)) && begins_remark (behind_blanks bs)) e in
    let behind = and_parts (ltb 0 (length (blanks bs))) (begins_remark (behind_blanks bs)) parts.1 in
    let blank = remark_blank bs (ltb_less 0 (length (blanks bs)) behind.0) in
    let some : has_words (line_of bs) ≡ true = ap has_words (words_split bs) ∙ remark_words (behind_blanks bs) behind.1 in
    ap (λ c. is_ended (line_of (c ∷ bs))) (eqb-true b 35 parts.0)
    ∙ ap is_ended (first_word 35 bs refl)
    ∙ ap (λ (w : Word). is_ended ((35 ∷ w) ∷ line_of (behind_word (35 ∷ bs)))) blank.0
    ∙ ap (λ (t : List ℕ). is_ended ((35 ∷ []) ∷ line_of t)) blank.1
    ∙ ap (λ v. not (true && v) && is_ended (line_of bs)) some

not_remarked : (bs : List ℕ) → is_ended (line_of bs) ≡ true → is_remarked_end bs ≡ false
not_remarked bs e = ⊎_elim (λ (r : is_remarked_end bs ≡ true). absurd (both_ways (is_ended (line_of bs)) (remarked bs r) e))
    (λ (r : is_remarked_end bs ≡ false). r)
    (cases_Bool (is_remarked_end bs))

blank_line : (b : ℕ) (bs : List ℕ) → is_blank (line_byte b bs) ≡ true → line_of (b ∷ bs) ≡ line_of bs
blank_line b bs e = rw e refl

before_kept : (b : ℕ) (bs : List ℕ) (v : Bool) → (is_blank (line_byte b bs) && is_remarked_end bs) ≡ false → before_end bs ≡ bs → before_end (b ∷ bs) ≡ b ∷ bs
before_kept b bs v e h = rw e (ap (λ (t : List ℕ). b ∷ t) h)

-- at the start of a word or of blanks, and inside a word
ended_whole : (l : List ℕ) → (is_ended (line_of l) ≡ true → before_end l ≡ l) × (is_ended (line_of (behind_word l)) ≡ true → before_end l ≡ l)
ended_whole [] = ((λ e. refl), (λ e. refl))
ended_whole (b ∷ bs) = ⊎_elim
    (λ (k : is_blank (line_byte b bs) ≡ true).
    let whole : is_ended (line_of bs) ≡ true → before_end (b ∷ bs) ≡ b ∷ bs = λ (e : is_ended (line_of bs) ≡ true).
    before_kept b bs true (ap (λ v. v && is_remarked_end bs) k ∙ not_remarked bs e) ((ended_whole bs).0 e) in (
      (λ (e : is_ended (line_of (b ∷ bs)) ≡ true). whole (ap is_ended (sym (blank_line b bs k)) ∙ e)),
      (λ (e : is_ended (line_of (behind_word (b ∷ bs))) ≡ true).
          whole (ap is_ended (sym (blank_line b bs k)) ∙ ap (λ (t : List ℕ). is_ended (line_of t)) (sym (behind_blank b bs k)) ∙ e)),
    ))
    (λ (k : is_blank (line_byte b bs) ≡ false).
    let whole : is_ended (line_of (behind_word bs)) ≡ true → before_end (b ∷ bs) ≡ b ∷ bs = λ (e : is_ended (line_of (behind_word bs)) ≡ true).
    before_kept b bs false (ap (λ v. v && is_remarked_end bs) k) ((ended_whole bs).1 e) in
    let same : behind_word (b ∷ bs) ≡ behind_word bs = behind_letter b bs k in (
      (λ (e : is_ended (line_of (b ∷ bs)) ≡ true). whole (ap (λ (t : List ℕ). is_ended (line_of t)) (sym same)
          ∙ ended_rest (leading_word (b ∷ bs)) (line_of (behind_word (b ∷ bs))) (ap is_ended (sym (first_word b bs k)) ∙ e))),
      (λ (e : is_ended (line_of (behind_word (b ∷ bs))) ≡ true). whole (ap (λ (t : List ℕ). is_ended (line_of t)) (sym same) ∙ e)),
    ))
    (cases_Bool (is_blank (line_byte b bs)))

-- a line of a bid that ends with `#`
bid_line_kept : (before : ℕ) (l : List ℕ) (n : Word) (ws : List Word) → 3 ≤ before → is_number n ≡ true → line_of l ≡ n ∷ ws → is_ended (n ∷ ws) ≡ true
    → IsKept before l
bid_line_kept before l [] ws some e h k = absurd (cc)
bid_line_kept before l (c ∷ cs) ws some e h k =
    let b = line_begins l c cs ws h in
    let digit : is_digit c ≡ true = (and_parts (is_digit c) (digits_alone cs) e).0 in
    let high : 48 ≤ c = leb-true 48 c (and_parts (leb 48 c) (leb c 57) digit).0 in
    let whole : before_end l ≡ l = (ended_whole l).0 (ap is_ended h ∙ k) in
    let not_two : eqb before 2 ≡ false = ne_eqb before 2 (λ t. omega (arith, some, t)) in
    let not_comment : eqb c 37 ≡ false = ne_eqb c 37 (λ t. omega (arith, high, t)) in
    let not_hash : eqb c 35 ≡ false = ne_eqb c 35 (λ t. omega (arith, high, t)) in
    let bid : leb 3 before ≡ true = le-leb 3 before some in
    let uncut : mend_in_bid l ≡ None = ap (λ v. if v then Some Remark else None)
    (le-ltb (length (before_end l)) (length l) (omega (arith, ap (λ (t : List ℕ). length t) whole))) in
    record {
      whole = ap (λ v. v && begins_with_digit (behind_blanks l)) not_two;
      unmended = ap (mend_by before l) b.1 ∙ by_tests c b.0 not_comment not_hash bid ∙ uncut;
    }
  where
    by_tests : (c : ℕ) (bs : List ℕ) → eqb c 37 ≡ false → eqb c 35 ≡ false → leb 3 before ≡ true → mend_by before l (c ∷ bs) ≡ mend_in_bid l
    by_tests c bs a b d = rw a (rw b (rw d refl))

number_no_hash : (w : Word) → is_number w ≡ true → is_hash w ≡ false
number_no_hash [] e = refl
number_no_hash (b ∷ []) e = ⊎_elim (λ (h : eqb b 35 ≡ true). absurd (both_ways (is_number (35 ∷ [])) refl
    (ap (λ c. is_number (c ∷ [])) (sym (eqb-true b 35 h)) ∙ e)))
    (λ (h : eqb b 35 ≡ false). h)
    (cases_Bool (eqb b 35))
number_no_hash (b ∷ c ∷ cs) e = refl

price_no_hash : (w : Word) → is_price w ≡ true → is_hash w ≡ false
price_no_hash [] e = refl
price_no_hash (b ∷ []) e = ⊎_elim (λ (h : eqb b 35 ≡ true). absurd (both_ways (is_price (35 ∷ [])) refl
    (ap (λ c. is_price (c ∷ [])) (sym (eqb-true b 35 h)) ∙ e)))
    (λ (h : eqb b 35 ≡ false). h)
    (cases_Bool (eqb b 35))
price_no_hash (b ∷ c ∷ cs) e = refl

no_hash_more : (w : Word) (ws : List Word) → is_hash w ≡ false → is_ended ws ≡ true → is_ended (w ∷ ws) ≡ true
no_hash_more w ws e h = rw e h

goods_ended : (goods : List Word) → AllByRecursion (λ w. is_number w ≡ true) goods → is_ended (goods ++ codes "#" ∷ []) ≡ true
goods_ended [] h = refl
goods_ended (g ∷ gs) h = no_hash_more g (gs ++ codes "#" ∷ []) (number_no_hash g h.0) (goods_ended gs h.1)

spelled_kept : (f : PlainFile) (before : ℕ) (l : List ℕ) (ws : List Word) → 3 ≤ before → SpellsBid f ws → line_of l ≡ ws → IsKept before l
spelled_kept f before l ws some s e = bid_line_kept before l s.number (s.price ∷ (s.goods ++ codes "#" ∷ [])) some s.number_spelled (e ∙ s.words_are)
    (no_hash_more s.number (s.price ∷ (s.goods ++ codes "#" ∷ [])) (number_no_hash s.number s.number_spelled)
    (no_hash_more s.price (s.goods ++ codes "#" ∷ []) (price_no_hash s.price s.price_spelled.price) (goods_ended s.goods s.goods_spelled)))

-- ---- a bid file

-- lines with these words are kept
abbrev KeepsWords : ℕ → List (List Word) → Type 0
KeepsWords before [] = Unit {0}
KeepsWords before (ws ∷ more) = ((l : List ℕ) → line_of l ≡ ws → IsKept before l) × KeepsWords (suc before) more

quiet : (before : ℕ) (l x : List ℕ) → begins x ≡ false → (begins_with_digit x ≡ false) × (mend_by before l x ≡ None)
quiet before l [] e = (refl, refl)
quiet before l (b ∷ bs) e =
    let is : b ≡ 37 = eqb-true b 37 (not_false (eqb b 37) e) in
    (ap is_digit is, ap (λ c. mend_by before l (c ∷ bs)) is)
  where
    not_false : (v : Bool) → not v ≡ false → v ≡ true
    not_false true e = refl
    not_false false e = absurd (cc)

quiet_kept : (before : ℕ) (l : List ℕ) → is_significant (line_of l) ≡ false → IsKept before l
quiet_kept before l e =
    let is = quiet before l (behind_blanks l) (sym (significant_line l) ∙ e) in
    record { whole = and_false (eqb before 2) (begins_with_digit (behind_blanks l)) is.0; unmended = is.1 }
  where
    and_false : (a b : Bool) → b ≡ false → (a && b) ≡ false
    and_false true b e = e
    and_false false b e = refl

kept_by_words : (before : ℕ) (ls : List RawLine) → KeepsWords before (words_from ls) → AreKept before ls
kept_by_words before [] h = tt
kept_by_words before (l ∷ ls) h = ⊎_elim
    (λ (s : is_significant_line l ≡ true).
    let next : before_next before l ≡ suc before = ap (λ v. if v then suc before else before) s in
    let both : KeepsWords before (line_of l.bytes ∷ words_from ls) = subst (KeepsWords before) (words_more l ls s) h in
    (both.0 l.bytes refl, subst (λ n. AreKept n ls) (sym next) (kept_by_words (suc before) ls both.1)))
    (λ (s : is_significant_line l ≡ false).
    let next : before_next before l ≡ before = ap (λ v. if v then suc before else before) s in (
      quiet_kept before l.bytes s,
      subst (λ n. AreKept n ls) (sym next)
          (kept_by_words before ls (subst (KeepsWords before) (words_same l ls s) h)),
    ))
    (cases_Bool (is_significant_line l))

bids_keep : (f : PlainFile) (before : ℕ) (lines : List (List Word)) → 3 ≤ before → AllByRecursion (SpellsBid f) lines → KeepsWords before lines
bids_keep f before [] some h = tt
bids_keep f before (ws ∷ more) some h = (
  (λ (l : List ℕ) (e : line_of l ≡ ws). spelled_kept f before l ws some h.0 e),
  bids_keep f (suc before) more (omega (arith, some)) h.1,
)

file_kept : (text : List ℕ) (f : PlainFile) → Spells text f → AreKept 0 (raw_lines text)
file_kept text f s = kept_by_words 0 (raw_lines text) (subst (KeepsWords 0) (sym s.lines_are ∙ significant_from text) (
  (λ (l : List ℕ) (e : line_of l ≡ codes "goods" ∷ s.goods ∷ []). goods_kept l (s.goods ∷ []) e),
  (
    (λ (l : List ℕ) (e : line_of l ≡ codes "bids" ∷ s.bids ∷ []). bids_kept l (s.bids ∷ []) e),
    (
      (λ (l : List ℕ) (e : line_of l ≡ codes "dummy" ∷ s.dummy ∷ []). dummy_kept l (s.dummy ∷ []) e),
      bids_keep f 3 s.bid_lines (omega arith) s.each,
    ),
  ),
))

pub file_without_mends : (text : List ℕ) (f : PlainFile) → Spells text f → mended_places text ≡ []
file_without_mends text f s = kept_unnoted 1 0 (raw_lines text) (file_kept text f s)
