-- What is kept of the word at the start of bytes: of digits, of digits and a point, and of `#`.
use Rattle.cats_text.proofs.Common.{rules, ◌≡◌, ℕ, ◌+◌, ◌-◌, ◌<◌, ◌≤◌, true, false, List, [], ◌∷◌, ◌++◌, length, get_or, take, drop, fold, sym, ap, ◌∙◌, arith}
use Rattle.cats_text.proofs.Common.{zero, suc, zero-add, eqb, and_parts, both_ways, eqb-true, eq-eqb, or_left, or_right, length-take, length-drop, fold-append}
use Rattle.cats_text.proofs.Common.{AllByRecursion, is_blank, is_digit, digits_alone, word_from, word_with, summary, IsPlain, IsKept, IsLeadingToken, Decimal}
use Rattle.cats_text.proofs.Common.{Number, End, common_steps}
use Rattle.cats_text.specs.declared.word.Word.{Word}
use Rattle.cats_text.specs.declared.word.Word.TheVariants.{Decimal as Fraction}
use Rattle.cats_text.proofs.Scanning.ManyBytes.{digits_plain}

first_digit : (b : ℕ) → is_digit b ≡ true → word_from b ≡ word_with (Number 0) b
first_digit b d = rw d (ap (λ n. Number n) (sym (zero-add (b - 48))))

digits_summary : (ds : List ℕ) (v : ℕ) → 0 < length ds → digits_alone ds ≡ true → Number v ≡ fold word_with (Number 0) ds → Number v ≡ summary ds
digits_summary [] v l h e = absurd (let no : 0 < 0 = l in omega arith)
digits_summary (b ∷ ds) v l h e = let p = and_parts (is_digit b) (digits_alone ds) h in e ∙ ap (λ w. fold word_with w ds) (sym (first_digit b p.0))

plain-append : (xs ys : List ℕ) → AllByRecursion IsPlain xs → AllByRecursion IsPlain ys → AllByRecursion IsPlain (xs ++ ys)
plain-append [] ys h k = k
plain-append (x ∷ xs) ys h k = (h.0, plain-append xs ys h.1 k)

summary-append : (xs ys : List ℕ) → 0 < length xs → summary (xs ++ ys) ≡ fold word_with (summary xs) ys
summary-append [] ys l = absurd (let no : 0 < 0 = l in omega arith)
summary-append (x ∷ xs) ys l = fold-append word_with (word_from x) xs ys

-- the digits at the start, the byte behind them, and what is at the start behind it
take_parts : (bytes : List ℕ) (i k : ℕ) → i < length bytes → take (i + 1 + k) bytes ≡ take i bytes ++ get_or bytes i 0 ∷ take k (drop (i + 1) bytes)
take_parts [] i k l = absurd (let no : i < 0 = l in omega arith)
take_parts (b ∷ bytes) zero k l = let e : 0 + 1 + k ≡ suc k = omega arith in ap (λ n. take n (b ∷ bytes)) e
take_parts (b ∷ bytes) (suc i) k l = let e : suc i + 1 + k ≡ suc (i + 1 + k) = omega arith in let f : suc i + 1 ≡ suc (i + 1) = omega arith in
    search (rules, (take_parts bytes i k (omega arith)))

pub number_kept : (bytes : List ℕ) (count v : ℕ) → 0 < count → count ≤ length bytes → digits_alone (take count bytes) ≡ true
    → Number v ≡ fold word_with (Number 0) (take count bytes) → IsKept bytes (Number v) count
number_kept bytes count v some within digits value = grind (arith, common_steps, digits_plain, digits_summary, length-take)

pub end_kept : (bytes : List ℕ) → 0 < length bytes → get_or bytes 0 0 ≡ 35 → IsKept bytes End 1
end_kept [] l e = absurd (let no : 0 < 0 = l in omega arith)
end_kept (b ∷ bytes) l e = grind (arith, common_steps)

pub decimal_kept : (bytes : List ℕ) (count v : ℕ) (d : Decimal) (places : ℕ) → 0 < count → count < length bytes → get_or bytes count 0 ≡ 46
    → digits_alone (take count bytes) ≡ true → Number v ≡ fold word_with (Number 0) (take count bytes)
    → places ≤ length (drop (count + 1) bytes) → digits_alone (take places (drop (count + 1) bytes)) ≡ true
    → Fraction d ≡ fold word_with (Fraction (record { whole = v; millionths = 0; decimals = 0; fine = false })) (take places (drop (count + 1) bytes))
    → IsKept bytes (Fraction d) (count + 1 + places)
decimal_kept bytes count v d places some within point digits value space more fraction =
    search (rules, length-drop, length-take, take_parts, plain-append, digits_plain, summary-append, digits_summary)

-- ---- the word and what is behind it

blank_no_feed : (b : ℕ) → is_blank b ≡ true → eqb b 10 ≡ false
blank_no_feed b h = grind (arith, common_steps, both_ways, eqb-true)

pub token_before_blank : (bytes : List ℕ) (w : Word) (count : ℕ) → IsKept bytes w count → count < length bytes → is_blank (get_or bytes count 0) ≡ true
    → IsLeadingToken bytes w (count + 1)
token_before_blank bytes w count kept within blank = grind (arith, common_steps, blank_no_feed, or_left)

pub token_before_feed : (bytes : List ℕ) (w : Word) (count : ℕ) → IsKept bytes w count → count < length bytes → get_or bytes count 0 ≡ 10
    → IsLeadingToken bytes w count
token_before_feed bytes w count kept within feed = grind (arith, common_steps, eq-eqb, or_right)

-- `#` and LF
pub token_of_end : (bytes : List ℕ) → 1 < length bytes → get_or bytes 0 0 ≡ 35 → get_or bytes 1 0 ≡ 10 → IsLeadingToken bytes End 1
token_of_end bytes two hash feed = token_before_feed bytes End 1 (end_kept bytes (omega arith) hash) two feed
