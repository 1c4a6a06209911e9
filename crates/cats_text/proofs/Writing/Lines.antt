-- The lines and words of a layout.
use Rattle.cats_text.proofs.Common.{rules, ◌≡◌, ℕ, suc, ◌+◌, ◌/◌, ◌^◌, ◌<◌, true, List, [], ◌∷◌, ◌++◌, length, map, codes, decimal, Option, Some, None, refl}
use Rattle.cats_text.proofs.Common.{sym, ap, ◌∙◌, arith, append_assoc, AllByRecursion, and_parts, false≢true, ne_eqb, not_from_false, Word, line_words}
use Rattle.cats_text.proofs.Common.{is_significant, is_number, significant_words, AreBelow, PlainBid, PlainFile, IsBid, IsDummyBelow, dummy_good, goods_of}
use Rattle.cats_text.proofs.Common.{price_text, header_text, tabbed, bid_text, bids_text, layout, common_steps, append-nil}
use Rattle.cats_text.proofs.Words.Places.{digit_bounds}
use Rattle.cats_text.proofs.Writing.Numerals.{decimal_spells}
use Rattle.cats_text.proofs.Writing.Prices.{price_text_is_word}
use Rattle.cats_text.proofs.Writing.TextLines.{IsInLine, IsWord, all_append, letters_in_line, number_is_word, line_words-word, line_words-last, lines_from}
use Rattle.cats_text.proofs.Writing.TextLines.{lines_from-line}

-- ---- the words that are written

abbrev pub bid_words : ℕ → ℕ → PlainBid → List Word
bid_words goods n b = decimal n ∷ price_text b.price ∷ (map decimal (goods_of goods b) ++ codes "#" ∷ [])

abbrev pub bids_words : ℕ → ℕ → List PlainBid → List (List Word)
bids_words goods n [] = []
bids_words goods n (b ∷ bs) = bid_words goods n b ∷ bids_words goods (suc n) bs

decimal_is_word : (n : ℕ) → n < 2 ^ 64 → IsWord (decimal n)
decimal_is_word n fits = number_is_word (decimal n) (decimal_spells n fits).number

number_is_significant : (w : Word) (ws : List Word) → is_number w ≡ true → is_significant (w ∷ ws) ≡ true
number_is_significant [] ws number = absurd (false≢true number)
number_is_significant (b ∷ bs) ws number = grind (arith, common_steps, and_parts, digit_bounds, ne_eqb, not_from_false)

-- ---- goods

-- numbers that have digits
abbrev pub AreShort : List ℕ → Type 0
AreShort ns = AllByRecursion (λ n. n < 2 ^ 64) ns

goods_short : (goods dummy : ℕ) (gs : List ℕ) (d : Option ℕ) → goods + dummy < 2 ^ 64 → AreBelow goods gs → IsDummyBelow dummy d
    → AreShort (gs ++ dummy_good goods d)
goods_short goods dummy [] None fits below within = tt
goods_short goods dummy [] (Some d) fits below within = (omega arith, tt)
goods_short goods dummy (g ∷ gs) d fits below within = (omega (arith, below.0), goods_short goods dummy gs d fits below.1 within)

pub bid_goods_short : (goods dummy : ℕ) (b : PlainBid) → goods + dummy < 2 ^ 64 → IsBid goods dummy b → AreShort (goods_of goods b)
bid_goods_short goods dummy b fits bid = goods_short goods dummy b.goods b.dummy fits bid.below bid.dummy

tab : IsInLine 9
tab = record { feed = refl; return = refl }

tabbed_in_line : (gs : List ℕ) → AreShort gs → AllByRecursion IsInLine (tabbed gs)
tabbed_in_line [] short = tt
tabbed_in_line (g ∷ gs) short =
    (tab, all_append IsInLine (decimal g) (tabbed gs) (letters_in_line (decimal g) (decimal_is_word g short.0).letters) (tabbed_in_line gs short.1))

tabbed_words : (w : Word) (gs : List ℕ) → IsWord w → AreShort gs → line_words ((w ++ tabbed gs) ++ codes "\t#") ≡ w ∷ (map decimal gs ++ codes "#" ∷ [])
tabbed_words w [] word short = ap (λ v. line_words (v ++ codes "\t#")) (append-nil w) ∙ line_words-word w 9 (codes "#") word refl
tabbed_words w (g ∷ gs) word short =
    grind (arith, common_steps, append_assoc, decimal_is_word, line_words-word, (tabbed_words (decimal g) gs (decimal_is_word g short.0) short.1))

-- ---- bid lines

abbrev bid_line : ℕ → ℕ → PlainBid → List ℕ
bid_line goods n b = decimal n ++ 9 ∷ price_text b.price ++ tabbed (goods_of goods b) ++ codes "\t#"

-- what holds of the numbers of a bid line
record IsBidLine (goods n : ℕ) (b : PlainBid) : Type 0 where
  number : n < 2 ^ 64
  price : b.price / 1000000 < 2 ^ 64
  short : AreShort (goods_of goods b)

regrouped : (n p gs e : List ℕ) → n ++ 9 ∷ p ++ gs ++ e ≡ n ++ 9 ∷ ((p ++ gs) ++ e)
regrouped n p gs e = append_assoc (n ++ 9 ∷ p) gs e ∙ append_assoc n (9 ∷ p) (gs ++ e) ∙ ap (λ t. n ++ 9 ∷ t) (sym (append_assoc p gs e))

bid_line_words : (goods n : ℕ) (b : PlainBid) → IsBidLine goods n b → line_words (bid_line goods n b) ≡ bid_words goods n b
bid_line_words goods n b fits = grind (arith, common_steps, decimal_is_word, line_words-word, price_text_is_word, regrouped, tabbed_words)

bid_line_in_line : (goods n : ℕ) (b : PlainBid) → IsBidLine goods n b → AllByRecursion IsInLine (bid_line goods n b)
bid_line_in_line goods n b fits =
    let number = letters_in_line (decimal n) (decimal_is_word n fits.number).letters in
    let price = letters_in_line (price_text b.price) (price_text_is_word b.price fits.price).letters in
    search (rules, tab, all_append, tabbed_in_line)

ended : (prefix rest : List ℕ) → prefix ++ codes "\t#\n" ++ rest ≡ (prefix ++ codes "\t#") ++ 10 ∷ rest
ended prefix rest = ap (λ t. t ++ rest) (sym (append_assoc prefix (codes "\t#") (10 ∷ []))) ∙ append_assoc (prefix ++ codes "\t#") (10 ∷ []) rest

lines_from-bid : (k goods n : ℕ) (b : PlainBid) (rest : List ℕ) → IsBidLine goods n b → lines_from k (bid_text goods n b ++ rest) ≡ bid_words goods n b
    ∷ lines_from (suc k) rest
lines_from-bid k goods n b rest fits =
    grind (arith, common_steps, bid_line_in_line, bid_line_words, decimal_spells, ended, lines_from, lines_from-line, number_is_significant)

-- what holds of the bids from the n-th on
pub record AreBids (goods dummy n : ℕ) (bs : List PlainBid) : Type 0 where
  pub goods_fit : goods + dummy < 2 ^ 32
  pub count : n + length bs < 2 ^ 32
  pub each : AllByRecursion (IsBid goods dummy) bs

pub behind_first : (goods dummy n : ℕ) (b : PlainBid) (bs : List PlainBid) → AreBids goods dummy n (b ∷ bs) → AreBids goods dummy (suc n) bs
behind_first goods dummy n b bs bids = record { goods_fit = bids.goods_fit; count = omega (arith, bids.count); each = bids.each.1 }

first_line : (goods dummy n : ℕ) (b : PlainBid) (bs : List PlainBid) → AreBids goods dummy n (b ∷ bs) → IsBidLine goods n b
first_line goods dummy n b bs bids = record {
  number = omega (arith, bids.count);
  price = let greatest = bids.each.0.price in omega arith;
  short = bid_goods_short goods dummy b (omega (arith, bids.goods_fit)) bids.each.0;
}

lines_from-bids : (k goods dummy n : ℕ) (bs : List PlainBid) → AreBids goods dummy n bs → lines_from k (bids_text goods n bs) ≡ bids_words goods n bs
lines_from-bids k goods dummy n [] bids = refl
lines_from-bids k goods dummy n (b ∷ bs) bids =
    search (rules, lines_from-bid, first_line, behind_first, (lines_from-bids (suc k) goods dummy (suc n) bs (behind_first goods dummy n b bs bids)))

-- ---- header lines

lines_from-header : (k : ℕ) (keyword : Word) (n : ℕ) (rest : List ℕ) → IsWord keyword → is_significant (keyword ∷ decimal n ∷ []) ≡ true → n < 2 ^ 64
    → lines_from k (header_text keyword n ++ rest) ≡ (keyword ∷ decimal n ∷ []) ∷ lines_from (suc k) rest
lines_from-header k keyword n rest word significant fits =
    let number = decimal_is_word n fits in
    let blank : IsInLine 32 = record { feed = refl; return = refl } in
    ap (lines_from k) (append_assoc (keyword ++ 32 ∷ decimal n) (10 ∷ []) rest) ∙ lines_from-line k (keyword ++ 32 ∷ decimal n) rest (keyword ∷ decimal n ∷ [])
    (all_append IsInLine keyword (32 ∷ decimal n) (letters_in_line keyword word.letters) (blank, letters_in_line (decimal n) number.letters))
    (line_words-word keyword 32 (decimal n) word refl ∙ ap (λ ws. keyword ∷ ws) (line_words-last (decimal n) number))
    significant

keywords : IsWord (codes "goods") × IsWord (codes "bids") × IsWord (codes "dummy")
keywords = grind (arith, common_steps)

-- ---- the whole text

four : (a b c d : List ℕ) → a ++ b ++ c ++ d ≡ a ++ (b ++ (c ++ d))
four a b c d = append_assoc (a ++ b) c d ∙ append_assoc a b (c ++ d)

pub layout_words : (f : PlainFile) → AreBids f.goods f.dummy 0 f.bids
    → significant_words (layout f) ≡ (codes "goods" ∷ decimal f.goods ∷ []) ∷ (codes "bids" ∷ decimal (length f.bids) ∷ [])
    ∷ (codes "dummy" ∷ decimal f.dummy ∷ []) ∷ bids_words f.goods 0 f.bids
layout_words f bids =
    let goods : List ℕ = header_text (codes "goods") f.goods in
    let count : List ℕ = header_text (codes "bids") (length f.bids) in
    let dummy : List ℕ = header_text (codes "dummy") f.dummy in
    let lines : List ℕ = bids_text f.goods 0 f.bids in
    ap (lines_from 1) (four goods count dummy lines)
    ∙ lines_from-header 1 (codes "goods") f.goods (count ++ (dummy ++ lines)) keywords.0 refl (omega (arith, bids.goods_fit))
    ∙ ap (λ ls. (codes "goods" ∷ decimal f.goods ∷ []) ∷ ls) (
    lines_from-header 2 (codes "bids") (length f.bids) (dummy ++ lines) keywords.1 refl (omega (arith, bids.count))
    ∙ ap (λ ls. (codes "bids" ∷ decimal (length f.bids) ∷ []) ∷ ls) (
    lines_from-header 3 (codes "dummy") f.dummy lines keywords.2 refl (omega (arith, bids.goods_fit))
    ∙ ap (λ ls. (codes "dummy" ∷ decimal f.dummy ∷ []) ∷ ls) (lines_from-bids 4 f.goods f.dummy 0 f.bids bids)))
