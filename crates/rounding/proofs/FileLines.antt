-- The words of lines, and a bid file that is rounded.
use Rattle.rounding.proofs.Common.{rules, ◌≡◌, ℕ, zero, suc, ◌-◌, ◌<◌, ◌≤◌, true, false, ◌&&◌, eqb, leb, List, [], ◌∷◌, ◌++◌, map, filter, drop, refl, sym}
use Rattle.rounding.proofs.Common.{ap, ◌∙◌, if◌then◌else◌, arith, ◌+◌, length, Bool, ⊎_elim, Some, None, append_assoc, subst, slice_get, cases_Bool}
use Rattle.rounding.proofs.Common.{and_parts, eqb-true, ltb-false, both_ways, drop_all, length-drop, length-map, AllByRecursion, Word, RawLine, Line}
use Rattle.rounding.proofs.Common.{is_blank, line_byte, line_ends, blank_returns, raw_lines, with_byte, line_words, words_with, with_letter, is_significant}
use Rattle.rounding.proofs.Common.{numbered, significant_lines, price_word, has_bid_line, Spells, SpellsPrice, SpellsBid, significant_words, is_price}
use Rattle.rounding.proofs.Common.{is_too_large, is_too_fine, price_text, price_small, price_text_spells, MAX_PRICE, PlainFile, PlainBid, IsPlainFile, IsBid}
use Rattle.rounding.proofs.Common.{replacement, behind_blanks, leading_word, behind_word, from_second, before_second, second_word, behind_second}
use Rattle.rounding.proofs.Common.{with_rounded, is_bid_line, is_significant_line, before_next, rounded_line, rounded_lines, lines_text, line_changes}
use Rattle.rounding.proofs.Common.{lines_changes, rounded_text, rounded_prices, change_by, behind_line, common_steps, PriceRule, Replacement, Itself}
use Rattle.rounding.proofs.Common.{TooLarge, Exact, replacement_text, PlainRoundedPrice, is_kept, ltb, codes, ◌*◌, ◌^◌, cases_lt, leb-true}
use Rattle.rounding.proofs.Exactness.{kept_itself}
use Rattle.rounding.proofs.PriceValues.{price_replaced}
use Rattle.rounding.proofs.TextLines.{first_of_lines, first_raw}
use Rattle.rounding.proofs.Spans.{word_both}
use Rattle.rounding.proofs.Words.{byte_stays, second_both}

-- ---- the words of a line

abbrev pub line_of : List ℕ → List Word
line_of l = line_words (blank_returns l)

-- the leading word, and the words behind it
abbrev pub split_first : List ℕ → List Word
split_first [] = []
split_first (b ∷ bs) = leading_word (b ∷ bs) ∷ line_of (behind_word (b ∷ bs))

-- one byte before words
blank_skips : (x : ℕ) (bs : List ℕ) (ws : List Word) → is_blank x ≡ true → words_with x bs ws ≡ ws
blank_skips x bs ws e = rw e refl

letter_last : (x : ℕ) → is_blank x ≡ false → words_with x [] [] ≡ (x ∷ []) ∷ []
letter_last x e = rw e refl

letter_alone : (x c : ℕ) (cs : List ℕ) (ws : List Word) → is_blank x ≡ false → is_blank c ≡ true → words_with x (c ∷ cs) ws ≡ (x ∷ []) ∷ ws
letter_alone x c cs ws e f = rw e (rw f refl)

letter_joins : (x c : ℕ) (cs : List ℕ) (ws : List Word) → is_blank x ≡ false → is_blank c ≡ false → words_with x (c ∷ cs) ws ≡ with_letter x ws
letter_joins x c cs ws e f = rw e (rw f refl)

pub leading_letter : (b : ℕ) (xs : List ℕ) → is_blank (line_byte b xs) ≡ false → leading_word (b ∷ xs) ≡ b ∷ leading_word xs
leading_letter b xs e = rw e refl

pub behind_letter : (b : ℕ) (xs : List ℕ) → is_blank (line_byte b xs) ≡ false → behind_word (b ∷ xs) ≡ behind_word xs
behind_letter b xs e = rw e refl

leading_blank : (c : ℕ) (cs : List ℕ) → is_blank (line_byte c cs) ≡ true → leading_word (c ∷ cs) ≡ []
leading_blank c cs e = rw e refl

pub behind_blank : (c : ℕ) (cs : List ℕ) → is_blank (line_byte c cs) ≡ true → behind_word (c ∷ cs) ≡ c ∷ cs
behind_blank c cs e = rw e refl

letter_stays : (b : ℕ) (bs : List ℕ) → is_blank (line_byte b bs) ≡ false → behind_blanks (b ∷ bs) ≡ b ∷ bs
letter_stays b bs e = rw e refl

blank_passed : (b : ℕ) (bs : List ℕ) → is_blank (line_byte b bs) ≡ true → behind_blanks (b ∷ bs) ≡ behind_blanks bs
blank_passed b bs e = rw e refl

split_letter : (b : ℕ) (xs : List ℕ) → is_blank (line_byte b xs) ≡ false → (b ∷ leading_word xs) ∷ line_of (behind_word xs) ≡ split_first (b ∷ xs)
split_letter b xs e = grind (arith, common_steps, behind_letter, leading_letter)

pub first_word : (b : ℕ) (bs : List ℕ) → is_blank (line_byte b bs) ≡ false → line_of (b ∷ bs) ≡ split_first (b ∷ bs)
first_word b [] e = letter_last (line_byte b []) e ∙ ap (λ x. (x ∷ []) ∷ []) (byte_stays b [] e) ∙ split_letter b [] e
first_word b (c ∷ cs) e = ⊎_elim (search (rules, letter_alone, byte_stays, leading_blank, behind_blank, split_letter))
    (λ (f : is_blank (line_byte c cs) ≡ false). letter_joins (line_byte b (c ∷ cs)) (line_byte c cs) (blank_returns cs) (line_of (c ∷ cs)) e f
    ∙ ap (with_letter (line_byte b (c ∷ cs))) (first_word c cs f)
    ∙ ap (λ x. (x ∷ leading_word (c ∷ cs)) ∷ line_of (behind_word (c ∷ cs))) (byte_stays b (c ∷ cs) e) ∙ split_letter b (c ∷ cs) e)
    (cases_Bool (is_blank (line_byte c cs)))

pub words_split : (l : List ℕ) → line_of l ≡ split_first (behind_blanks l)
words_split [] = refl
words_split (b ∷ bs) = grind (arith, common_steps, blank_passed, blank_skips, first_word, letter_stays, (words_split bs))

heads : (x : List ℕ) (n : Word) (ws : List Word) → split_first x ≡ n ∷ ws → line_of (behind_word x) ≡ ws
heads [] n ws e = absurd (cc)
heads (b ∷ bs) n ws e = cc

pub head_word : (x : List ℕ) (n : Word) (ws : List Word) → split_first x ≡ n ∷ ws → leading_word x ≡ n
head_word [] n ws e = absurd (cc)
head_word (b ∷ bs) n ws e = cc

pub second_is : (l : List ℕ) (n p : Word) (ws : List Word) → line_of l ≡ n ∷ p ∷ ws → second_word l ≡ p
second_is l n p ws e =
    let rest : line_of (behind_word (behind_blanks l)) ≡ p ∷ ws = heads (behind_blanks l) n (p ∷ ws) (sym (words_split l) ∙ e) in
    head_word (from_second l) p ws (sym (words_split (behind_word (behind_blanks l))) ∙ rest)

pub line_parts : (l : List ℕ) → before_second l ++ second_word l ++ behind_second l ≡ l
line_parts l = grind (arith, common_steps, append_assoc, second_both, word_both)

-- ---- lines with their returns as blanks

abbrev blanked : RawLine → RawLine
blanked l = record { bytes = blank_returns l.bytes; ended = l.ended }

abbrev first_bytes : List RawLine → List ℕ
first_bytes [] = []
first_bytes (l ∷ ls) = l.bytes

ends_same : (bs : List ℕ) → line_ends bs ≡ line_ends (first_bytes (raw_lines bs))
ends_same [] = refl
ends_same (c ∷ cs) = grind (arith, common_steps)

feed_stays : (bs : List ℕ) (b : ℕ) → eqb b 10 ≡ true → line_byte b bs ≡ 10
feed_stays bs b e = let is : b ≡ 10 = eqb-true b 10 e in rw is refl

other_stays : (bs : List ℕ) (b : ℕ) → eqb b 10 ≡ false → eqb (line_byte b bs) 10 ≡ false
other_stays bs b e = elim ((eqb b 13) && line_ends bs) as (λ v. eqb (if v then 32 else b) 10 ≡ false) [ true ↦ refl | false ↦ e ]

with_blanked : (b : ℕ) (ls : List RawLine) → with_byte (line_byte b (first_bytes ls)) (map blanked ls) ≡ map blanked (with_byte b ls)
with_blanked b [] = refl
with_blanked b (l ∷ ls) = refl

pub lines_blanked : (t : List ℕ) → raw_lines (blank_returns t) ≡ map blanked (raw_lines t)
lines_blanked [] = refl
lines_blanked (b ∷ bs) = grind (arith, common_steps, ends_same, feed_stays, other_stays, with_blanked, (lines_blanked bs))

-- ---- the words of significant lines

abbrev pub words_from : List RawLine → List (List Word)
words_from [] = []
words_from (l ∷ ls) = if is_significant_line l then line_of l.bytes ∷ words_from ls else words_from ls

kept_words : (n : ℕ) (ls : List RawLine) → map (λ (l : Line). l.words) (filter (λ (l : Line). is_significant l.words) (numbered n (map blanked ls)))
    ≡ words_from ls
kept_words n [] = refl
kept_words n (l ∷ ls) = grind (arith, common_steps, (kept_words (suc n) ls))

pub significant_from : (t : List ℕ) → significant_words t ≡ words_from (raw_lines t)
significant_from t = grind (arith, common_steps, kept_words, lines_blanked)

-- ---- a text is its lines

lines_joined : (b : ℕ) (ls : List RawLine) → lines_text (with_byte b ls) ≡ b ∷ lines_text ls
lines_joined b [] = refl
lines_joined b (l ∷ ls) = refl

pub text_of_lines : (t : List ℕ) → lines_text (raw_lines t) ≡ t
text_of_lines [] = refl
text_of_lines (b ∷ bs) = grind (arith, common_steps, eqb-true, lines_joined, (text_of_lines bs))

-- ---- lines whose second words stay

-- a second word of which this holds
pub HasSecond : (Word → Type 0) → List Word → Type 0
HasSecond Holds words = (n : Word) × (p : Word) × (ws : List Word) × (words ≡ n ∷ p ∷ ws) × Holds p

-- each bid line has such a second word
abbrev pub EachSecond : (Word → Type 0) → ℕ → List RawLine → Type 0
EachSecond Holds before [] = Unit {0}
EachSecond Holds before (l ∷ ls) = (is_bid_line before l ≡ true → Holds (second_word l.bytes)) × EachSecond Holds (before_next before l) ls

-- the word is not replaced
abbrev Stays : PriceRule → Word → Type 0
Stays rule w = replacement rule w ≡ Itself

pub bytes_stay : (rule : PriceRule) (l : List ℕ) → Stays rule (second_word l) → with_rounded rule l ≡ l
bytes_stay rule l e = ap (λ (r : Replacement). before_second l ++ replacement_text (second_word l) r ++ behind_second l) e ∙ line_parts l

pub line_stays : (rule : PriceRule) (before : ℕ) (l : RawLine) → (is_bid_line before l ≡ true → Stays rule (second_word l.bytes))
    → rounded_line rule before l ≡ l
line_stays rule before l h = grind (arith, common_steps, bytes_stay)

pub lines_stay : (rule : PriceRule) (before : ℕ) (ls : List RawLine) → EachSecond (Stays rule) before ls → rounded_lines rule before ls ≡ ls
lines_stay rule before [] h = refl
lines_stay rule before (l ∷ ls) h = grind (arith, common_steps, line_stays, (lines_stay rule (before_next before l) ls h.1))

-- ---- lines whose second words are not rounded

-- the word is not rounded
abbrev pub Unrounded : PriceRule → Word → Type 0
Unrounded rule w = (number : ℕ) → change_by number w (replacement rule w) ≡ []

line_unchanged : (rule : PriceRule) (number before : ℕ) (l : RawLine) → (is_bid_line before l ≡ true → Unrounded rule (second_word l.bytes))
    → line_changes rule number before l ≡ []
line_unchanged rule number before l h = ⊎_elim
    (λ (e : is_bid_line before l ≡ true). ap (λ v. if v then change_by number (second_word l.bytes) (replacement rule (second_word l.bytes)) else []) e
    ∙ h e number)
    (λ (e : is_bid_line before l ≡ false). ap (λ v. if v then change_by number (second_word l.bytes) (replacement rule (second_word l.bytes)) else []) e)
    (cases_Bool (is_bid_line before l))

pub lines_unchanged : (rule : PriceRule) (number before : ℕ) (ls : List RawLine) → EachSecond (Unrounded rule) before ls
    → lines_changes rule number before ls ≡ []
lines_unchanged rule number before [] h = refl
lines_unchanged rule number before (l ∷ ls) h = ap (λ (cs : List PlainRoundedPrice). cs ++ lines_changes rule (suc number) (before_next before l) ls)
    (line_unchanged rule number before l h.0) ∙ lines_unchanged rule (suc number) (before_next before l) ls h.1

-- ---- the bid lines of a file

second_of_line : (Holds : Word → Type 0) (l : List ℕ) → HasSecond Holds (line_of l) → Holds (second_word l)
unfolding HasSecond
second_of_line Holds l h = subst Holds (sym (second_is l h.0 h.1 h.2 h.3)) h.4

pub words_more : (l : RawLine) (ls : List RawLine) → is_significant_line l ≡ true → words_from (l ∷ ls) ≡ line_of l.bytes ∷ words_from ls
words_more l ls e = rw e refl

pub words_same : (l : RawLine) (ls : List RawLine) → is_significant_line l ≡ false → words_from (l ∷ ls) ≡ words_from ls
words_same l ls e = rw e refl

-- after so many significant lines, all further ones have such second words, but for the headers that are still to come
module _ (Holds : Word → Type 0) where
  -- one significant line, from what holds of the lines behind it
  each_more : (before : ℕ) (l : RawLine) (ls : List RawLine)
      → ((n : ℕ) → AllByRecursion (HasSecond Holds) (drop (3 - n) (words_from ls)) → EachSecond Holds n ls)
      → is_significant_line l ≡ true → AllByRecursion (HasSecond Holds) (drop (3 - before) (line_of l.bytes ∷ words_from ls)) → EachSecond Holds before (l ∷ ls)
  each_more before l ls rest e g =
      let next : before_next before l ≡ suc before = ap (λ v. if v then suc before else before) e in
      ⊎_elim
      (λ (few : before < 3).
      let more : 3 - before ≡ suc (3 - suc before) = omega arith in (
        λ (b : is_bid_line before l ≡ true).
            absurd (omega (arith, few, leb-true 3 before ((and_parts (leb 3 before) (is_significant_line l) b).0))),
        subst (λ n. EachSecond Holds n ls) (sym next) (rest (suc before)
            (subst (λ k. AllByRecursion (HasSecond Holds) (drop k (line_of l.bytes ∷ words_from ls))) more g)),
      ))
      (λ (some : 3 ≤ before).
      let none : 3 - before ≡ 0 = omega arith in
      let later : 0 ≡ 3 - suc before = omega arith in
      let all : AllByRecursion (HasSecond Holds) (line_of l.bytes ∷ words_from ls) =
      subst (λ k. AllByRecursion (HasSecond Holds) (drop k (line_of l.bytes ∷ words_from ls))) none g in (
        λ (b : is_bid_line before l ≡ true). second_of_line Holds l.bytes all.0,
        subst (λ n. EachSecond Holds n ls) (sym next) (rest (suc before)
            (subst (λ k. AllByRecursion (HasSecond Holds) (drop k (words_from ls))) later all.1)),
      ))
      (cases_lt before 3)

  pub each_from : (before : ℕ) (ls : List RawLine) → AllByRecursion (HasSecond Holds) (drop (3 - before) (words_from ls)) → EachSecond Holds before ls
  each_from before [] h = tt
  each_from before (l ∷ ls) h = ⊎_elim
      (λ (e : is_significant_line l ≡ true). each_more before l ls
      (λ (n : ℕ) (g : AllByRecursion (HasSecond Holds) (drop (3 - n) (words_from ls))). each_from n ls g) e
      (subst (λ (ws : List (List Word)). AllByRecursion (HasSecond Holds) (drop (3 - before) ws)) (words_more l ls e) h))
      (λ (e : is_significant_line l ≡ false).
      let next : before_next before l ≡ before = ap (λ v. if v then suc before else before) e in (
        λ (b : is_bid_line before l ≡ true). absurd (both_ways (is_significant_line l) e (and_parts (leb 3 before) (is_significant_line l) b).1),
        subst (λ n. EachSecond Holds n ls) (sym next) (each_from before ls
            (subst (λ (ws : List (List Word)). AllByRecursion (HasSecond Holds) (drop (3 - before) ws)) (words_same l ls e) h)),
      ))
      (cases_Bool (is_significant_line l))

pub found_price : (n : ℕ) (bids : List PlainBid) (b : PlainBid) (G D : ℕ) → AllByRecursion (IsBid G D) bids → slice_get bids n ≡ Some b → b.price ≤ MAX_PRICE
found_price n [] b G D all e = absurd (cc)
found_price zero (x ∷ xs) b G D all e = let same : x ≡ b = cc in subst (λ (y : PlainBid). y.price ≤ MAX_PRICE) same all.0.price
found_price (suc n) (x ∷ xs) b G D all e = found_price n xs b G D all.1 e

valid_word : (p : Word) → is_price p ≡ true → is_too_large p ≡ false → is_too_fine p ≡ false → price_word p ≡ None
valid_word p a b c = rw a (rw b (rw c refl))

-- ---- a bid file

-- the word is a price of some value, at most the greatest
abbrev pub IsPriceOf : Word → Type 0
IsPriceOf p = (millionths : ℕ) × SpellsPrice p millionths × (millionths ≤ MAX_PRICE)

pub spelled_price : (f : PlainFile) (words : List Word) → IsPlainFile f → SpellsBid f words → HasSecond IsPriceOf words
unfolding HasSecond
spelled_price f words facts s =
    let small : s.bid.price ≤ MAX_PRICE = search (rules, found_price) in
    (s.number, s.price, s.goods ++ codes "#" ∷ [], s.words_are, (s.bid.price, s.price_spelled, small))

spelled_prices : (f : PlainFile) (lines : List (List Word)) → IsPlainFile f → AllByRecursion (SpellsBid f) lines → AllByRecursion (HasSecond IsPriceOf) lines
spelled_prices f [] facts h = tt
spelled_prices f (l ∷ ls) facts h = (spelled_price f l facts h.0, spelled_prices f ls facts h.1)

each_price : (text : List ℕ) (f : PlainFile) → Spells text f → EachSecond IsPriceOf 0 (raw_lines text)
each_price text f s = grind (arith, common_steps, significant_from, spelled_prices, each_from)

each_with : (P Q : Word → Type 0) → ((w : Word) → P w → Q w) → (before : ℕ) (ls : List RawLine) → EachSecond P before ls → EachSecond Q before ls
each_with P Q h before [] e = tt
each_with P Q h before (l ∷ ls) e = (λ (b : is_bid_line before l ≡ true). h (second_word l.bytes) (e.0 b), each_with P Q h (before_next before l) ls e.1)

pub price_faultless : (p : Word) → IsPriceOf p → price_word p ≡ None
price_faultless p h = valid_word p (h.1).price (price_small p (h.1).price (h.1).exact (omega (arith, (h.1).value, h.2))) (h.1).exact

-- the second of a line's words, if all such are prices
pub second_valid : (ws : List Word) (n p : Word) (rest : List Word) → ws ≡ n ∷ p ∷ rest → HasSecond IsPriceOf ws → price_word p ≡ None
unfolding HasSecond
second_valid ws n p rest e h =
    let same : h.0 ∷ h.1 ∷ h.2 ≡ n ∷ p ∷ rest = sym h.3 ∙ e in
    let price : h.1 ≡ p = cc in
    ap price_word (sym price) ∙ price_faultless h.1 h.4

price_stays : (rule : PriceRule) → rule.tens ≡ 0 → (p : Word) → IsPriceOf p → Stays rule p
price_stays rule none p h = let faultless : price_word p ≡ None = price_faultless p h in rw none (rw faultless refl)

pub file_stays : (rule : PriceRule) (text : List ℕ) (f : PlainFile) → rule.tens ≡ 0 → Spells text f → rounded_text rule text ≡ text
file_stays rule text f none s = ap lines_text (lines_stay rule 0 (raw_lines text)
    (each_with IsPriceOf (Stays rule) (price_stays rule none) 0 (raw_lines text) (each_price text f s))) ∙ text_of_lines text

-- a price is whole millionths, and so is a power of ten times it
price_unrounded : (rule : PriceRule) (p : Word) → IsPriceOf p → Unrounded rule p
price_unrounded rule p h number = ⊎_elim
    (λ (k : is_kept rule p ≡ true). ap (change_by number p) (kept_itself rule p k).1)
    (λ (k : is_kept rule p ≡ false). ap (change_by number p) (price_replaced rule p h.0 h.1 k) ∙ whole_unrounded number p (10 ^ rule.tens * h.0))
    (cases_Bool (is_kept rule p))
  where
    whole_unrounded : (number : ℕ) (p : Word) (m : ℕ) → change_by number p (if ltb MAX_PRICE m then TooLarge else Exact m) ≡ []
    whole_unrounded number p m = elim (ltb MAX_PRICE m) as (λ v. change_by number p (if v then TooLarge else Exact m) ≡ []) [ true ↦ refl | false ↦ refl ]

pub file_unchanged : (rule : PriceRule) (text : List ℕ) (f : PlainFile) → Spells text f → rounded_prices rule text ≡ []
file_unchanged rule text f s = lines_unchanged rule 1 0 (raw_lines text)
    (each_with IsPriceOf (Unrounded rule) (price_unrounded rule) 0 (raw_lines text) (each_price text f s))

-- ---- a text in which no bid line has begun

-- how many significant lines a text has
count_words : (text : List ℕ) → length (words_from (raw_lines text)) ≡ length (significant_lines text)
count_words text = ap (λ (ws : List (List Word)). length ws) (sym (significant_from text)) ∙ length-map (significant_lines text) (λ (l : Line). l.words)

no_second : (Holds : Word → Type 0) (text : List ℕ) → has_bid_line text ≡ false → EachSecond Holds 0 (raw_lines text)
no_second Holds text none = grind (arith, common_steps, count_words, drop_all, ltb-false, each_from)

pub header_stays : (rule : PriceRule) (text : List ℕ) → has_bid_line text ≡ false → rounded_text rule text ≡ text
header_stays rule text none = ap lines_text (lines_stay rule 0 (raw_lines text) (no_second (Stays rule) text none)) ∙ text_of_lines text

pub header_unchanged : (rule : PriceRule) (text : List ℕ) → has_bid_line text ≡ false → rounded_prices rule text ≡ []
header_unchanged rule text none = lines_unchanged rule 1 0 (raw_lines text) (no_second (Unrounded rule) text none)

-- so many of a text's significant lines are before a place
abbrev pub IsCounted : List ℕ → ℕ → ℕ → Type 0
IsCounted text start count = count + length (words_from (raw_lines (drop start text))) ≡ length (significant_lines text)

count_first : (l : RawLine) (ls : List RawLine) (significant : Bool) (more : ℕ) → significant ≡ is_significant_line l
    → more ≡ (if significant then 1 else 0) → length (words_from (l ∷ ls)) ≡ more + length (words_from ls)
count_first l ls true more es em = ap (λ (ws : List (List Word)). length ws) (words_more l ls (sym es)) ∙ omega (arith, em)
count_first l ls false more es em = ap (λ (ws : List (List Word)). length ws) (words_same l ls (sym es)) ∙ omega (arith, em)

pub none_counted : (text : List ℕ) → IsCounted text 0 0
none_counted text = omega (arith, count_words text)

pub line_counted : (text : List ℕ) (start next count more : ℕ) (significant : Bool) → start < length text
    → drop next text ≡ behind_line (drop start text) → significant ≡ is_significant_line (first_raw (drop start text))
    → more ≡ (if significant then 1 else 0) → IsCounted text start count → IsCounted text next (count + more)
line_counted text start next count more significant l en es em before = grind (arith, common_steps, count_first, first_of_lines, first_raw, length-drop)

-- ---- prices that are written

pub written_spells : (p : ℕ) → p ≤ MAX_PRICE → SpellsPrice (price_text p) p
written_spells p l = price_text_spells p (omega arith)

pub written_faultless : (p : ℕ) → p ≤ MAX_PRICE → price_word (price_text p) ≡ None
written_faultless p l = grind (arith, common_steps, price_small, valid_word, written_spells)
