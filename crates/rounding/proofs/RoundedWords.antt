-- The words of a rounded text: those of the text, but for the second words of bid lines.
use Rattle.rounding.proofs.Common.{◌≡◌, ◌⊎◌, ℕ, zero, suc, ◌-◌, ◌*◌, ◌/◌, ◌<◌, ◌≤◌, Bool, true, false, not, ◌&&◌, eqb, ltb, leb, List, [], ◌∷◌, ◌++◌, map}
use Rattle.rounding.proofs.Common.{take, drop, length, refl, sym, ap, ◌∙◌, subst, ⊎_elim, inl, inr, arith, common_steps, if◌then◌else◌, append_assoc}
use Rattle.rounding.proofs.Common.{cases_Bool, cases_lt, eqb-true, both_ways, AllByRecursion, Word, RawLine, is_blank, line_byte, line_ends, is_significant}
use Rattle.rounding.proofs.Common.{price_text, MAX_PRICE, is_decimal, is_kept, replacement, replacement_of, rounded_word, replacement_text, PriceRule}
use Rattle.rounding.proofs.Common.{FinePrices, Round, Refuse, Replacement, Itself, Exact, Rounded, TooLarge, TooFine, top, bottom, nearest, blanks}
use Rattle.rounding.proofs.Common.{behind_blanks, leading_word, behind_word, from_second, before_second, second_word, behind_second, with_rounded}
use Rattle.rounding.proofs.Common.{is_bid_line, is_significant_line, before_next, rounded_line, rounded_lines, length-append, codes, div-add-mod', mul-le}
use Rattle.rounding.proofs.Common.{ltb-false, ◌%◌, min, digits, lowered, raised, and_from, le-leb, leb-true}
use Rattle.rounding.specs.Multiplied.{rounded_line_words}
use Rattle.cats_text.proofs.Writing.TextLines.{IsWord, IsLetter, digits_are_letters}
use Rattle.cats_text.proofs.Writing.Prices.{price_text_is_word}
use Rattle.rounding.proofs.FileLines.{line_of, split_first, words_split, second_is, words_from, bytes_stay, words_more, words_same}
use Rattle.rounding.proofs.Exactness.{power_some}

-- ---- what is behind a run decides whether the line ends before the run

blanks_end : (l z : List ℕ) → line_ends z ≡ line_ends (behind_blanks l) → line_ends (blanks l ++ z) ≡ line_ends l
blanks_end [] z e = e
blanks_end (b ∷ bs) z e = grind (arith, common_steps)

word_end : (l z : List ℕ) → line_ends z ≡ line_ends (behind_word l) → line_ends (leading_word l ++ z) ≡ line_ends l
word_end [] z e = e
word_end (b ∷ bs) z e = grind (arith, common_steps)

byte_same : (b : ℕ) (xs ys : List ℕ) → line_ends xs ≡ line_ends ys → line_byte b xs ≡ line_byte b ys
byte_same b xs ys e = ap (λ v. if (eqb b 13) && v then 32 else b) e

blank_byte : (b : ℕ) (bs z : List ℕ) → line_ends z ≡ line_ends (behind_blanks bs) → line_byte b (blanks bs ++ z) ≡ line_byte b bs
blank_byte b bs z e = byte_same b (blanks bs ++ z) bs (blanks_end bs z e)

word_byte : (b : ℕ) (bs z : List ℕ) → line_ends z ≡ line_ends (behind_word bs) → line_byte b (leading_word bs ++ z) ≡ line_byte b bs
word_byte b bs z e = byte_same b (leading_word bs ++ z) bs (word_end bs z e)

-- ---- other bytes behind a run

-- whether a word begins at the start, or nothing is there
abbrev pub begins_here : List ℕ → Bool
begins_here [] = true
begins_here (b ∷ bs) = not (is_blank (line_byte b bs))

-- whether no byte at the start is of a word
abbrev pub ends_here : List ℕ → Bool
ends_here [] = true
ends_here (b ∷ bs) = is_blank (line_byte b bs)

pub behind_blanks_begins : (l : List ℕ) → begins_here (behind_blanks l) ≡ true
behind_blanks_begins [] = refl
behind_blanks_begins (b ∷ bs) = grind (arith, common_steps, (behind_blanks_begins bs))

pub behind_word_ends : (l : List ℕ) → ends_here (behind_word l) ≡ true
behind_word_ends [] = refl
behind_word_ends (b ∷ bs) = grind (arith, common_steps, (behind_word_ends bs))

begun : (z : List ℕ) → begins_here z ≡ true → behind_blanks z ≡ z
begun [] w = refl
begun (b ∷ bs) w = grind (arith, common_steps)

pub ended : (z : List ℕ) → ends_here z ≡ true → (leading_word z ≡ []) × (behind_word z ≡ z)
ended [] w = (refl, refl)
ended (b ∷ bs) w = grind (arith, common_steps)

pub blanks_other : (l z : List ℕ) → line_ends z ≡ line_ends (behind_blanks l) → begins_here z ≡ true → behind_blanks (blanks l ++ z) ≡ z
blanks_other [] z e w = begun z w
blanks_other (b ∷ bs) z e w = grind (arith, common_steps, blank_byte, begun, (blanks_other bs z))

word_other : (l z : List ℕ) → line_ends z ≡ line_ends (behind_word l) → ends_here z ≡ true
    → (leading_word (leading_word l ++ z) ≡ leading_word l) × (behind_word (leading_word l ++ z) ≡ z)
word_other [] z e w = ended z w
word_other (b ∷ bs) z e w = grind (arith, common_steps, word_byte, ended, (word_other bs z))

-- blanks end a word, and a word ends blanks
blanks_end_word : (l z : List ℕ) → 0 < length l → ends_here l ≡ true → line_ends z ≡ line_ends (behind_blanks l) → ends_here (blanks l ++ z) ≡ true
blanks_end_word [] z some w e = absurd (omega arith)
blanks_end_word (b ∷ bs) z some w e = grind (arith, common_steps, blank_byte)

word_begins : (l z : List ℕ) → 0 < length l → begins_here l ≡ true → line_ends z ≡ line_ends (behind_word l) → begins_here (leading_word l ++ z) ≡ true
word_begins [] z some w e = absurd (omega arith)
word_begins (b ∷ bs) z some w e = grind (arith, common_steps, word_byte)

-- ---- another word

letter_stays : (b : ℕ) (bs : List ℕ) → IsLetter b → line_byte b bs ≡ b
letter_stays b bs h = ap (λ v. if v && line_ends bs then 32 else b) h.line.return

pub letters_lead : (r t : List ℕ) → AllByRecursion IsLetter r → ends_here t ≡ true → (leading_word (r ++ t) ≡ r) × (behind_word (r ++ t) ≡ t)
letters_lead [] t h e = ended t e
letters_lead (b ∷ bs) t h e =
    let is : is_blank (line_byte b (bs ++ t)) ≡ false = ap is_blank (letter_stays b (bs ++ t) h.0) ∙ h.0.blank in
    let rest : (leading_word (bs ++ t) ≡ bs) × (behind_word (bs ++ t) ≡ t) = letters_lead bs t h.1 e in (
      ap (λ v. if v then [] else b ∷ leading_word (bs ++ t)) is ∙ ap (λ (w : Word). b ∷ w) rest.0,
      ap (λ v. if v then b ∷ bs ++ t else behind_word (bs ++ t)) is ∙ rest.1,
    )

-- what is known of a word at the beginning
record Leads (r t : List ℕ) : Type 0 where
  pub begins : begins_here (r ++ t) ≡ true
  pub goes_on : line_ends (r ++ t) ≡ false
  pub some : 0 < length (r ++ t)
  pub leading : leading_word (r ++ t) ≡ r
  pub behind : behind_word (r ++ t) ≡ t

word_leads : (r t : List ℕ) → IsWord r → ends_here t ≡ true → Leads r t
word_leads [] t h e = absurd (omega (arith, h.some))
word_leads (b ∷ bs) t h e = record {
  begins = ap (λ k. not (is_blank k)) (letter_stays b (bs ++ t) h.letters.0) ∙ ap not h.letters.0.blank;
  goes_on = h.letters.0.line.feed;
  some = omega arith;
  leading = (letters_lead (b ∷ bs) t h.letters e).0;
  behind = (letters_lead (b ∷ bs) t h.letters e).1;
}

split_some : (x : List ℕ) → 0 < length x → split_first x ≡ leading_word x ∷ line_of (behind_word x)
split_some [] h = absurd (omega arith)
split_some (b ∷ bs) h = refl

goes_on_some : (x : List ℕ) → line_ends x ≡ false → 0 < length x
goes_on_some [] h = absurd (both_ways true h refl)
goes_on_some (b ∷ bs) h = omega arith

blanks_some : (y : List ℕ) → 0 < length (behind_blanks y) → 0 < length y
blanks_some [] h = h
blanks_some (b ∷ bs) h = omega arith

word_some : (x : List ℕ) → 0 < length (behind_word x) → 0 < length x
word_some [] h = h
word_some (b ∷ bs) h = omega arith

-- the first two words of a line that has two
two_words : (l x y : List ℕ) → behind_blanks l ≡ x → behind_blanks (behind_word x) ≡ y → 0 < length x → 0 < length y
    → line_of l ≡ leading_word x ∷ leading_word y ∷ line_of (behind_word y)
two_words l x y ex ey sx sy = words_split l ∙ ap split_first ex ∙ split_some x sx
    ∙ ap (λ (ws : List Word). leading_word x ∷ ws) (words_split (behind_word x) ∙ ap split_first ey ∙ split_some y sy)

-- a line with another second word
replaced_line : (l : List ℕ) (r : Word) → IsWord r → line_ends (from_second l) ≡ false
    → line_of (before_second l ++ r ++ behind_second l) ≡ leading_word (behind_blanks l) ∷ r ∷ line_of (behind_second l)
replaced_line l r word on =
    let x : List ℕ = behind_blanks l in
    let y : List ℕ = behind_word x in
    let t : List ℕ = behind_second l in
    let two : List ℕ = blanks y ++ (r ++ t) in
    let one : List ℕ = leading_word x ++ two in
    let leads : Leads r t = word_leads r t word (behind_word_ends (from_second l)) in
    let some_second : 0 < length (behind_blanks y) = goes_on_some (from_second l) on in
    let some_y : 0 < length y = blanks_some y some_second in
    let some_x : 0 < length x = word_some x some_y in
    let same_third : line_ends (r ++ t) ≡ line_ends (behind_blanks y) = leads.goes_on ∙ sym on in
    let same_two : line_ends two ≡ line_ends y = blanks_end y (r ++ t) same_third in
    let ends_two : ends_here two ≡ true = blanks_end_word y (r ++ t) some_y (behind_word_ends x) same_third in
    let same_one : line_ends one ≡ line_ends x = word_end x two same_two in
    let begins_one : begins_here one ≡ true = word_begins x two some_x (behind_blanks_begins l) same_two in
    let first : (leading_word one ≡ leading_word x) × (behind_word one ≡ two) = word_other x two same_two ends_two in
    let second : behind_blanks two ≡ r ++ t = blanks_other y (r ++ t) same_third leads.begins in
    let some_one : 0 < length one = joined_some (leading_word x) two (joined_some (blanks y) (r ++ t) leads.some) in
    let parts : before_second l ++ r ++ t ≡ blanks l ++ one = append_assoc (before_second l) r t ∙ append_assoc (blanks l ++ leading_word x) (blanks y) (r ++ t)
    ∙ append_assoc (blanks l) (leading_word x) two in
    ap line_of parts ∙ two_words (blanks l ++ one) one (r ++ t) (blanks_other l one same_one begins_one) (ap behind_blanks first.1 ∙ second) some_one leads.some
    ∙ ap (λ (w : Word). w ∷ leading_word (r ++ t) ∷ line_of (behind_word (r ++ t))) first.0
    ∙ ap (λ (w : Word). leading_word x ∷ w ∷ line_of (behind_word (r ++ t))) leads.leading
    ∙ ap (λ (z : List ℕ). leading_word x ∷ r ∷ line_of z) leads.behind
  where
    joined_some : (xs ys : List ℕ) → 0 < length ys → 0 < length (xs ++ ys)
    joined_some xs ys h = omega (arith, length-append xs ys)

-- ---- what is written in place of a word is a word

too_large_word : IsWord (codes "1000000000001")
too_large_word = record { some = omega arith; letters = digits_are_letters (codes "1000000000001") refl }

too_fine_word : IsWord (codes "0.0000001")
too_fine_word = record {
  some = omega arith;
  letters = (digit, (record { blank = refl; line = record { feed = refl; return = refl } }, digits_are_letters (codes "0000001") refl));
}
  where
    digit : IsLetter 48
    digit = record { blank = refl; line = record { feed = refl; return = refl } }

price_is_word : (m : ℕ) → m ≤ MAX_PRICE → IsWord (price_text m)
price_is_word m l = price_text_is_word m (omega arith)

pub at_most_nearest : (n d : ℕ) → n / d ≤ nearest n d
at_most_nearest n d = omega arith

whole_below : (n d : ℕ) → 0 < d → n ≤ MAX_PRICE * d → n / d ≤ MAX_PRICE
whole_below n d some l = grind (arith, common_steps, div-add-mod', mul-le)

refused_large : (n d : ℕ) → ltb (MAX_PRICE * d) n ≡ true → replacement_of Refuse n d ≡ TooLarge
refused_large n d e = rw e refl

refused_whole : (n d : ℕ) → ltb (MAX_PRICE * d) n ≡ false → eqb (n % d) 0 ≡ true → replacement_of Refuse n d ≡ Exact (n / d)
refused_whole n d e f = rw e (rw f refl)

refused_fine : (n d : ℕ) → ltb (MAX_PRICE * d) n ≡ false → eqb (n % d) 0 ≡ false → replacement_of Refuse n d ≡ TooFine
refused_fine n d e f = rw e (rw f refl)

round_large : (n d : ℕ) → ltb MAX_PRICE (nearest n d) ≡ true → replacement_of Round n d ≡ TooLarge
round_large n d e = rw e refl

round_whole : (n d : ℕ) → ltb MAX_PRICE (nearest n d) ≡ false → eqb (n % d) 0 ≡ true → replacement_of Round n d ≡ Exact (n / d)
round_whole n d e f = rw e (rw f refl)

round_fine : (n d : ℕ) → ltb MAX_PRICE (nearest n d) ≡ false → eqb (n % d) 0 ≡ false → replacement_of Round n d ≡ Rounded (nearest n d)
round_fine n d e f = rw e (rw f refl)

replaced_is_word : (fine : FinePrices) (n d : ℕ) (w : Word) → 0 < d → IsWord (replacement_text w (replacement_of fine n d))
replaced_is_word Round n d w some = ⊎_elim
    (λ (e : ltb MAX_PRICE (nearest n d) ≡ true). subst (λ (r : Replacement). IsWord (replacement_text w r)) (sym (round_large n d e)) too_large_word)
    (λ (e : ltb MAX_PRICE (nearest n d) ≡ false).
    let small : nearest n d ≤ MAX_PRICE = ltb-false MAX_PRICE (nearest n d) e in
    ⊎_elim
    (λ (f : eqb (n % d) 0 ≡ true). subst (λ (r : Replacement). IsWord (replacement_text w r)) (sym (round_whole n d e f))
    (price_is_word (n / d) (omega (arith, small, at_most_nearest n d))))
    (λ (f : eqb (n % d) 0 ≡ false). subst (λ (r : Replacement). IsWord (replacement_text w r)) (sym (round_fine n d e f))
    (price_is_word (nearest n d) small))
    (cases_Bool (eqb (n % d) 0)))
    (cases_Bool (ltb MAX_PRICE (nearest n d)))
replaced_is_word Refuse n d w some = ⊎_elim
    (λ (e : ltb (MAX_PRICE * d) n ≡ true). subst (λ (r : Replacement). IsWord (replacement_text w r)) (sym (refused_large n d e))
    too_large_word)
    (λ (e : ltb (MAX_PRICE * d) n ≡ false). ⊎_elim
    (λ (f : eqb (n % d) 0 ≡ true). subst (λ (r : Replacement). IsWord (replacement_text w r)) (sym (refused_whole n d e f))
    (price_is_word (n / d) (whole_below n d some (ltb-false (MAX_PRICE * d) n e))))
    (λ (f : eqb (n % d) 0 ≡ false). subst (λ (r : Replacement). IsWord (replacement_text w r)) (sym (refused_fine n d e f)) too_fine_word)
    (cases_Bool (eqb (n % d) 0)))
    (cases_Bool (ltb (MAX_PRICE * d) n))

bottom_some : (tens : ℕ) (w : Word) → 0 < bottom tens w
bottom_some tens w = power_some (min (suc (length (digits w))) (lowered w - raised tens w))

by_value : (rule : PriceRule) (w : Word) → is_kept rule w ≡ false → is_decimal w ≡ true
    → replacement rule w ≡ replacement_of rule.fine (top rule.tens w) (bottom rule.tens w)
by_value rule w k h = rw k (rw h refl)

no_decimal : (rule : PriceRule) (w : Word) → is_kept rule w ≡ false → is_decimal w ≡ false → replacement rule w ≡ Itself
no_decimal rule w k h = rw k (rw h refl)

kept_word : (rule : PriceRule) (w : Word) → is_kept rule w ≡ true → replacement rule w ≡ Itself
kept_word rule w k = rw k refl

-- a word stays, or is a decimal in whose place a word is written
pub stays_or_word : (rule : PriceRule) (w : Word) → (replacement rule w ≡ Itself) ⊎ (IsWord (rounded_word rule w) × (is_decimal w ≡ true))
stays_or_word rule w = ⊎_elim (λ (k : is_kept rule w ≡ true). inl (kept_word rule w k)) (λ (k : is_kept rule w ≡ false). ⊎_elim
    (λ (h : is_decimal w ≡ true). inr (
      subst (λ (r : Replacement). IsWord (replacement_text w r)) (sym (by_value rule w k h))
          (replaced_is_word rule.fine (top rule.tens w) (bottom rule.tens w) w (bottom_some rule.tens w)),
      h,
    ))
    (λ (h : is_decimal w ≡ false). inl (no_decimal rule w k h))
    (cases_Bool (is_decimal w)))
    (cases_Bool (is_kept rule w))

-- ---- the words of a rounded line

decimal_goes_on : (x : List ℕ) → is_decimal (leading_word x) ≡ true → line_ends x ≡ false
decimal_goes_on [] h = absurd (both_ways false refl h)
decimal_goes_on (b ∷ bs) h = ⊎_elim
    (λ (e : eqb b 10 ≡ true). absurd (both_ways (is_decimal (leading_word (b ∷ bs)))
    (ap (λ c. is_decimal (leading_word (c ∷ bs))) (eqb-true b 10 e)) h))
    (λ (e : eqb b 10 ≡ false). e)
    (cases_Bool (eqb b 10))

itself_words : (rule : PriceRule) (ws : List Word) (w : Word) → replacement rule w ≡ Itself
    → ((n p : Word) (rest : List Word) → ws ≡ n ∷ p ∷ rest → w ≡ p) → rounded_line_words rule ws ≡ ws
itself_words rule [] w e second = refl
itself_words rule (n ∷ []) w e second = refl
itself_words rule (n ∷ p ∷ ws) w e second =
    ap (λ (v : Word). n ∷ v ∷ ws) (ap (replacement_text p) (ap (replacement rule) (sym (second n p ws refl)) ∙ e))

pub line_words_rounded : (rule : PriceRule) (l : List ℕ) → line_of (with_rounded rule l) ≡ rounded_line_words rule (line_of l)
line_words_rounded rule l = ⊎_elim
    (λ (e : replacement rule (second_word l) ≡ Itself). ap line_of (bytes_stay rule l e)
    ∙ sym (itself_words rule (line_of l) (second_word l) e (λ (n p : Word) (ws : List Word) (is : line_of l ≡ n ∷ p ∷ ws). second_is l n p ws is)))
    (λ (h : IsWord (rounded_word rule (second_word l)) × (is_decimal (second_word l) ≡ true)).
    let on : line_ends (from_second l) ≡ false = decimal_goes_on (from_second l) h.1 in
    let some : 0 < length (from_second l) = goes_on_some (from_second l) on in
    let some_first : 0 < length (behind_blanks l) = word_some (behind_blanks l) (blanks_some (behind_word (behind_blanks l)) some) in
    replaced_line l (rounded_word rule (second_word l)) h.0 on
    ∙ sym (ap (rounded_line_words rule) (two_words l (behind_blanks l) (from_second l) refl refl some_first some)))
    (stays_or_word rule (second_word l))

significant_same : (rule : PriceRule) (ws : List Word) → is_significant (rounded_line_words rule ws) ≡ is_significant ws
significant_same rule [] = refl
significant_same rule (n ∷ []) = refl
significant_same rule ([] ∷ p ∷ ws) = refl
significant_same rule ((b ∷ bs) ∷ p ∷ ws) = refl

-- ---- the words of rounded lines

plain_line : (rule : PriceRule) (before : ℕ) (l : RawLine) → is_bid_line before l ≡ false → rounded_line rule before l ≡ l
plain_line rule before l e = rw e refl

bid_line : (rule : PriceRule) (before : ℕ) (l : RawLine) → is_bid_line before l ≡ true → (rounded_line rule before l).bytes ≡ with_rounded rule l.bytes
bid_line rule before l e = rw e refl

bid_line_words : (rule : PriceRule) (before : ℕ) (l : RawLine) → is_bid_line before l ≡ true
    → line_of (rounded_line rule before l).bytes ≡ rounded_line_words rule (line_of l.bytes)
bid_line_words rule before l e = ap line_of (bid_line rule before l e) ∙ line_words_rounded rule l.bytes

still_significant : (rule : PriceRule) (before : ℕ) (l : RawLine) → is_significant_line (rounded_line rule before l) ≡ is_significant_line l
still_significant rule before l = ⊎_elim
    (λ (e : is_bid_line before l ≡ true). ap is_significant (bid_line_words rule before l e) ∙ significant_same rule (line_of l.bytes))
    (λ (e : is_bid_line before l ≡ false). ap is_significant_line (plain_line rule before l e))
    (cases_Bool (is_bid_line before l))

-- the words of lines, of which so many are headers still
abbrev rounded_behind : PriceRule → ℕ → List (List Word) → List (List Word)
rounded_behind rule headers lines = take headers lines ++ map (rounded_line_words rule) (drop headers lines)

words_of_header : (rule : PriceRule) (headers : ℕ) (ws : List Word) (lines : List (List Word))
    → ws ∷ rounded_behind rule headers lines ≡ rounded_behind rule (suc headers) (ws ∷ lines)
words_of_header rule headers ws lines = refl

significant_more : (rule : PriceRule) (before : ℕ) (l : RawLine) (lines : List (List Word)) → is_significant_line l ≡ true
    → line_of (rounded_line rule before l).bytes ∷ rounded_behind rule (3 - suc before) lines ≡ rounded_behind rule (3 - before) (line_of l.bytes ∷ lines)
significant_more rule before l lines s = ⊎_elim
    (λ (few : before < 3).
    let more : 3 - before ≡ suc (3 - suc before) = omega arith in
    let plain : is_bid_line before l ≡ false = ap (λ v. v && is_significant_line l) (lt-leb-false before few) in
    ap (λ (k : RawLine). line_of k.bytes ∷ rounded_behind rule (3 - suc before) lines) (plain_line rule before l plain)
    ∙ ap (λ k. rounded_behind rule k (line_of l.bytes ∷ lines)) (sym more))
    (λ (some : 3 ≤ before).
    let none : 3 - before ≡ 0 = omega arith in
    let later : 3 - suc before ≡ 0 = omega arith in
    let bid : is_bid_line before l ≡ true = and_from (leb 3 before) (is_significant_line l) (le-leb 3 before some) s in
    ap (λ k. line_of (rounded_line rule before l).bytes ∷ rounded_behind rule k lines) later
    ∙ ap (λ (ws : List Word). ws ∷ map (rounded_line_words rule) lines) (bid_line_words rule before l bid)
    ∙ ap (λ k. rounded_behind rule k (line_of l.bytes ∷ lines)) (sym none))
    (cases_lt before 3)
  where
    lt-leb-false : (n : ℕ) → n < 3 → leb 3 n ≡ false
    lt-leb-false n few = grind (arith, common_steps, leb-true)

pub lines_words : (rule : PriceRule) (before : ℕ) (ls : List RawLine)
    → words_from (rounded_lines rule before ls) ≡ rounded_behind rule (3 - before) (words_from ls)
lines_words rule before [] = none (3 - before)
  where
    none : (k : ℕ) → [] ≡ rounded_behind rule k []
    none zero = refl
    none (suc k) = refl
lines_words rule before (l ∷ ls) = ⊎_elim
    (λ (e : is_significant_line l ≡ true).
    let next : before_next before l ≡ suc before = ap (λ v. if v then suc before else before) e in
    words_more (rounded_line rule before l) (rounded_lines rule (before_next before l) ls) (still_significant rule before l ∙ e)
    ∙ ap (λ (ws : List (List Word)). line_of (rounded_line rule before l).bytes ∷ ws)
    (lines_words rule (before_next before l) ls ∙ ap (λ n. rounded_behind rule (3 - n) (words_from ls)) next)
    ∙ significant_more rule before l (words_from ls) e
    ∙ ap (rounded_behind rule (3 - before)) (sym (words_more l ls e)))
    (λ (e : is_significant_line l ≡ false).
    let next : before_next before l ≡ before = ap (λ v. if v then suc before else before) e in
    words_same (rounded_line rule before l) (rounded_lines rule (before_next before l) ls) (still_significant rule before l ∙ e)
    ∙ lines_words rule (before_next before l) ls ∙ ap (λ n. rounded_behind rule (3 - n) (words_from ls)) next
    ∙ ap (rounded_behind rule (3 - before)) (sym (words_same l ls e)))
    (cases_Bool (is_significant_line l))
