-- The lines of a rounded text, and a bid file whose prices are multiplied.
use Rattle.rounding.proofs.Common.{◌≡◌, ℕ, ◌*◌, ◌^◌, ◌<◌, ◌≤◌, true, false, ◌||◌, eqb, List, [], ◌∷◌, ◌++◌, map, drop, length, refl, sym, ap, ◌∙◌, subst}
use Rattle.rounding.proofs.Common.{⊎_elim, arith, common_steps, if◌then◌else◌, cases_Bool, cases_lt, both_ways, or_from, or_parts, le-ltb, lt-ltb}
use Rattle.rounding.proofs.Common.{length-append, length-map, list_any-append, slice_get-map, option_map, slice_get, Some, None, codes, AllByRecursion, Word}
use Rattle.rounding.proofs.Common.{RawLine, raw_lines, with_byte, significant_words, Spells, SpellsBid, SpellsPrice, price_word, number_of, MAX_PRICE}
use Rattle.rounding.proofs.Common.{PlainFile, PlainBid, IsPlainFile, IsBid, is_kept, replacement, rounded_word, replacement_text, PriceRule, Itself, Exact}
use Rattle.rounding.proofs.Common.{TooLarge, before_second, second_word, behind_second, with_rounded, is_bid_line, before_next, rounded_line, rounded_lines}
use Rattle.rounding.proofs.Common.{rounded_text, Replacement, lines_text, has_line_end, is_decimal, append-nil}
use Rattle.rounding.specs.Multiplied.{rounded_line_words, rounded_lines_words, times_bid, times_file}
use Rattle.cats_text.specs.FileLines.{bid_of, filled, slots_of, file_of_lines}
use Rattle.cats_text.specs.Faults.{header_value}
use Rattle.cats_text.specs.Grammar.{AreDistinct, line_number}
use Rattle.cats_text.specs.Numbers.{price_of}
use Rattle.cats_text.proofs.Spelling.BidsByNumber.{bids_all}
use Rattle.cats_text.proofs.Spelling.Files.{says_spelled, spells_one}
use Rattle.cats_text.proofs.Writing.TextLines.{IsWord, IsLetter}
use Rattle.rounding.proofs.Exactness.{kept_itself}
use Rattle.rounding.proofs.FileLines.{line_parts, significant_from, words_from, bytes_stay, written_spells, spelled_price, found_price, second_valid}
use Rattle.rounding.proofs.PriceValues.{price_replaced}
use Rattle.rounding.proofs.RoundedWords.{stays_or_word, lines_words}

-- ---- lines as a text has them

-- no line has an LF in it, and the last one alone may have none behind it, if it has bytes
abbrev pub AreLines : List RawLine → Type 0
AreLines [] = Unit {0}
AreLines (l ∷ ls) = (has_line_end l.bytes ≡ false) × (l.ended ≡ false → (ls ≡ []) × (0 < length l.bytes)) × AreLines ls

with_byte_lines : (b : ℕ) (ls : List RawLine) → eqb b 10 ≡ false → AreLines ls → AreLines (with_byte b ls)
with_byte_lines b [] e h = (or_from (eqb b 10) false e refl, (λ (u : false ≡ false). (refl, omega arith)), tt)
with_byte_lines b (l ∷ ls) e h = (or_from (eqb b 10) (has_line_end l.bytes) e h.0, (λ (u : l.ended ≡ false). ((h.1 u).0, omega arith)), h.2)

pub raw_are_lines : (t : List ℕ) → AreLines (raw_lines t)
raw_are_lines [] = tt
raw_are_lines (b ∷ bs) = ⊎_elim
    (λ (e : eqb b 10 ≡ true). subst AreLines (sym (ap (λ v. if v then record { bytes = []; ended = true } ∷ raw_lines bs else with_byte b (raw_lines bs)) e))
    (refl, (λ (u : true ≡ false). absurd (both_ways true u refl)), raw_are_lines bs))
    (λ (e : eqb b 10 ≡ false). subst AreLines (sym (ap (λ v. if v then record { bytes = []; ended = true } ∷ raw_lines bs else with_byte b (raw_lines bs)) e))
    (with_byte_lines b (raw_lines bs) e (raw_are_lines bs)))
    (cases_Bool (eqb b 10))

raw_byte : (b : ℕ) (bs : List ℕ) → eqb b 10 ≡ false → raw_lines (b ∷ bs) ≡ with_byte b (raw_lines bs)
raw_byte b bs e = rw e refl

raw_ended : (bytes t : List ℕ) → has_line_end bytes ≡ false → raw_lines ((bytes ++ 10 ∷ []) ++ t) ≡ record { bytes = bytes; ended = true } ∷ raw_lines t
raw_ended [] t h = refl
raw_ended (b ∷ bs) t h =
    let parts : (eqb b 10 ≡ false) × (has_line_end bs ≡ false) = or_parts (eqb b 10) (has_line_end bs) h in
    raw_byte b ((bs ++ 10 ∷ []) ++ t) parts.0 ∙ ap (with_byte b) (raw_ended bs t parts.1)

raw_last : (bytes : List ℕ) → has_line_end bytes ≡ false → 0 < length bytes → raw_lines bytes ≡ record { bytes = bytes; ended = false } ∷ []
raw_last [] h some = absurd (omega arith)
raw_last (b ∷ []) h some = raw_byte b [] (or_parts (eqb b 10) false h).0
raw_last (b ∷ c ∷ cs) h some =
    let parts : (eqb b 10 ≡ false) × (has_line_end (c ∷ cs) ≡ false) = or_parts (eqb b 10) (has_line_end (c ∷ cs)) h in
    raw_byte b (c ∷ cs) parts.0 ∙ ap (with_byte b) (raw_last (c ∷ cs) parts.1 (omega arith))

pub lines_of_text : (ls : List RawLine) → AreLines ls → raw_lines (lines_text ls) ≡ ls
lines_of_text [] h = refl
lines_of_text (l ∷ ls) h = grind (arith, common_steps, raw_ended, raw_last, append-nil, (lines_of_text ls h.2), cases_Bool)

-- ---- the lines of a rounded text

letters_no_end : (w : Word) → AllByRecursion IsLetter w → has_line_end w ≡ false
letters_no_end [] h = refl
letters_no_end (b ∷ bs) h = or_from (eqb b 10) (has_line_end bs) h.0.line.feed (letters_no_end bs h.1)

pub three : (xs ys zs : List ℕ) → has_line_end (xs ++ ys ++ zs) ≡ ((has_line_end xs || has_line_end ys) || has_line_end zs)
three xs ys zs = list_any-append (λ b. eqb b 10) (xs ++ ys) zs ∙ ap (λ v. v || has_line_end zs) (list_any-append (λ b. eqb b 10) xs ys)

with_word : (xs ws ys r : List ℕ) → has_line_end (xs ++ ws ++ ys) ≡ false → has_line_end r ≡ false → has_line_end (xs ++ r ++ ys) ≡ false
with_word xs ws ys r h e = grind (arith, common_steps, three, or_parts, or_from)

bytes_rounded : (rule : PriceRule) (l : List ℕ) → has_line_end l ≡ false → has_line_end (with_rounded rule l) ≡ false
bytes_rounded rule l h = ⊎_elim
    (λ (e : replacement rule (second_word l) ≡ Itself). ap has_line_end (bytes_stay rule l e) ∙ h)
    (λ (w : IsWord (rounded_word rule (second_word l)) × (is_decimal (second_word l) ≡ true)).
    with_word (before_second l) (second_word l) (behind_second l) (rounded_word rule (second_word l)) (ap has_line_end (line_parts l) ∙ h)
    (letters_no_end (rounded_word rule (second_word l)) w.0.letters))
    (stays_or_word rule (second_word l))

some_bytes : (rule : PriceRule) (l : List ℕ) → 0 < length l → 0 < length (with_rounded rule l)
some_bytes rule l h = ⊎_elim
    (λ (e : replacement rule (second_word l) ≡ Itself). subst (λ (bytes : List ℕ). 0 < length bytes) (sym (bytes_stay rule l e)) h)
    (λ (w : IsWord (rounded_word rule (second_word l)) × (is_decimal (second_word l) ≡ true)).
    omega (
      arith,
      w.0.some,
      length-append (before_second l ++ rounded_word rule (second_word l)) (behind_second l),
      length-append (before_second l) (rounded_word rule (second_word l)),
    ))
    (stays_or_word rule (second_word l))

line_feed : (rule : PriceRule) (before : ℕ) (l : RawLine) → has_line_end l.bytes ≡ false → has_line_end (rounded_line rule before l).bytes ≡ false
line_feed rule before l h = elim (is_bid_line before l) as (λ v. has_line_end (if v then with_rounded rule l.bytes else l.bytes) ≡ false)
    [ true ↦ bytes_rounded rule l.bytes h | false ↦ h ]

line_some : (rule : PriceRule) (before : ℕ) (l : RawLine) → 0 < length l.bytes → 0 < length (rounded_line rule before l).bytes
line_some rule before l h = elim (is_bid_line before l) as (λ v. 0 < length (if v then with_rounded rule l.bytes else l.bytes))
    [ true ↦ some_bytes rule l.bytes h | false ↦ h ]

rounded_are_lines : (rule : PriceRule) (before : ℕ) (ls : List RawLine) → AreLines ls → AreLines (rounded_lines rule before ls)
rounded_are_lines rule before [] h = tt
rounded_are_lines rule before (l ∷ ls) h = (
  line_feed rule before l h.0,
  (λ (u : l.ended ≡ false). (ap (rounded_lines rule (before_next before l)) ((h.1 u).0), line_some rule before l ((h.1 u).1))),
  rounded_are_lines rule (before_next before l) ls h.2,
)

pub rounded_words_are : (rule : PriceRule) (text : List ℕ) → significant_words (rounded_text rule text) ≡ rounded_lines_words rule (significant_words text)
rounded_words_are rule text = significant_from (rounded_text rule text)
    ∙ ap words_from (lines_of_text (rounded_lines rule 0 (raw_lines text)) (rounded_are_lines rule 0 (raw_lines text) (raw_are_lines text)))
    ∙ lines_words rule 0 (raw_lines text) ∙ ap (rounded_lines_words rule) (sym (significant_from text))

-- ---- a price that is multiplied

kept_once : (n m : ℕ) → n ≡ 0 → m ≡ 10 ^ n * m
kept_once n m e = let one : m ≡ 10 ^ 0 * m = omega arith in one ∙ ap (λ k. 10 ^ k * m) (sym e)

price_times : (rule : PriceRule) (p : Word) (m : ℕ) → SpellsPrice p m → 10 ^ rule.tens * m ≤ MAX_PRICE → SpellsPrice (rounded_word rule p) (10 ^ rule.tens * m)
price_times rule p m s l = ⊎_elim
    (λ (k : is_kept rule p ≡ true).
    let stays : (rule.tens ≡ 0) × (replacement rule p ≡ Itself) = kept_itself rule p k in
    subst (SpellsPrice (rounded_word rule p)) (kept_once rule.tens m stays.0) (subst (λ (w : Word). SpellsPrice w m) (sym (ap (replacement_text p) stays.1)) s))
    (λ (k : is_kept rule p ≡ false).
    subst (λ (w : Word). SpellsPrice w (10 ^ rule.tens * m)) (sym (ap (replacement_text p) (price_replaced rule p m s k
    ∙ ap (λ v. if v then TooLarge else Exact (10 ^ rule.tens * m)) (le-ltb MAX_PRICE (10 ^ rule.tens * m) l))))
    (written_spells (10 ^ rule.tens * m) l))
    (cases_Bool (is_kept rule p))

too_large_faulty : price_word (codes "1000000000001") ≡ None → ⊥
too_large_faulty e = cc

-- a price that is read when it was multiplied was not too large
times_small : (rule : PriceRule) (p : Word) (m : ℕ) → SpellsPrice p m → m ≤ MAX_PRICE → price_word (rounded_word rule p) ≡ None → 10 ^ rule.tens * m ≤ MAX_PRICE
times_small rule p m s small valid = ⊎_elim
    (λ (k : is_kept rule p ≡ true).
    let once : m ≡ 10 ^ rule.tens * m = kept_once rule.tens m (kept_itself rule p k).0 in
    subst (λ n. n ≤ MAX_PRICE) once small)
    (λ (k : is_kept rule p ≡ false). ⊎_elim
    (λ (large : MAX_PRICE < 10 ^ rule.tens * m). absurd (too_large_faulty (sym (ap (λ (r : Replacement). price_word (replacement_text p r))
    (price_replaced rule p m s k ∙ ap (λ v. if v then TooLarge else Exact (10 ^ rule.tens * m)) (lt-ltb MAX_PRICE (10 ^ rule.tens * m) large))) ∙ valid)))
    (λ (l : 10 ^ rule.tens * m ≤ MAX_PRICE). l)
    (cases_lt MAX_PRICE (10 ^ rule.tens * m)))
    (cases_Bool (is_kept rule p))

-- ---- a line of a file whose prices are multiplied

same_number : (rule : PriceRule) (ws : List Word) → line_number (rounded_line_words rule ws) ≡ line_number ws
same_number rule [] = refl
same_number rule (n ∷ []) = refl
same_number rule (n ∷ p ∷ ws) = refl

same_numbers : (rule : PriceRule) (lines : List (List Word)) → map line_number (map (rounded_line_words rule) lines) ≡ map line_number lines
same_numbers rule [] = refl
same_numbers rule (l ∷ ls) = ap (λ n. n ∷ map line_number (map (rounded_line_words rule) ls)) (same_number rule l)
    ∙ ap (λ ns. line_number l ∷ ns) (same_numbers rule ls)

module _ (rule : PriceRule) (f : PlainFile) where
  abbrev times : PlainFile
  times = times_file (10 ^ rule.tens) f

  line_times : (ws : List Word) → IsPlainFile times → SpellsBid f ws → SpellsBid times (rounded_line_words rule ws)
  line_times ws facts s =
      let stands : slice_get times.bids (number_of s.number) ≡ Some (times_bid (10 ^ rule.tens) s.bid) =
      slice_get-map (times_bid (10 ^ rule.tens)) f.bids (number_of s.number) ∙ ap (option_map (times_bid (10 ^ rule.tens))) s.stands in
      record {
        number = s.number;
        price = rounded_word rule s.price;
        goods = s.goods;
        bid = times_bid (10 ^ rule.tens) s.bid;
        words_are = ap (rounded_line_words rule) s.words_are;
        number_spelled = s.number_spelled;
        stands = stands;
        price_spelled = price_times rule s.price s.bid.price s.price_spelled
            (found_price (number_of s.number) times.bids (times_bid (10 ^ rule.tens) s.bid) f.goods f.dummy facts.each stands);
        goods_spelled = s.goods_spelled;
        distinct = s.distinct;
        same_goods = s.same_goods;
      }

  lines_times : (lines : List (List Word)) → IsPlainFile times → AllByRecursion (SpellsBid f) lines
      → AllByRecursion (SpellsBid times) (map (rounded_line_words rule) lines)
  lines_times [] facts h = tt
  lines_times (l ∷ ls) facts h = (line_times l facts h.0, lines_times ls facts h.1)

  module _ (text : List ℕ) (s : Spells text f) where
    lines_are : significant_words (rounded_text rule text) ≡ (codes "goods" ∷ s.goods ∷ []) ∷ (codes "bids" ∷ s.bids ∷ [])
        ∷ (codes "dummy" ∷ s.dummy ∷ []) ∷ map (rounded_line_words rule) s.bid_lines
    lines_are = rounded_words_are rule text ∙ ap (rounded_lines_words rule) s.lines_are

    same_count : length f.bids ≡ length times.bids
    same_count = sym (length-map f.bids (times_bid (10 ^ rule.tens)))

    pub spells_times : IsPlainFile times → Spells (rounded_text rule text) times
    spells_times facts = record {
      goods = s.goods;
      bids = s.bids;
      dummy = s.dummy;
      bid_lines = map (rounded_line_words rule) s.bid_lines;
      lines_are = lines_are;
      goods_spelled = s.goods_spelled;
      bids_spelled = record { number = s.bids_spelled.number; value = s.bids_spelled.value ∙ same_count };
      dummy_spelled = s.dummy_spelled;
      count = length-map s.bid_lines (rounded_line_words rule) ∙ s.count ∙ same_count;
      distinct = subst AreDistinct (sym (same_numbers rule s.bid_lines)) s.distinct;
      each = lines_times s.bid_lines facts s.each;
      facts = facts;
    }

    -- ---- no price is too large if the text spells a file then

    Fits : PlainBid → Type 0
    Fits b = 10 ^ rule.tens * b.price ≤ MAX_PRICE

    line_fits : (g : PlainFile) (G : ℕ) (ws : List Word) → IsPlainFile g → SpellsBid f ws → SpellsBid g (rounded_line_words rule ws) → Fits (bid_of G ws)
    unfolding Fits
    line_fits g G ws facts b c =
        let second : price_word (rounded_word rule b.price) ≡ None = second_valid (rounded_line_words rule ws) b.number (rounded_word rule b.price)
        (b.goods ++ codes "#" ∷ []) (ap (rounded_line_words rule) b.words_are) (spelled_price g (rounded_line_words rule ws) facts c) in
        let small : b.bid.price ≤ MAX_PRICE = found_price (number_of b.number) f.bids b.bid f.goods f.dummy s.facts.each b.stands in
        let fits : 10 ^ rule.tens * price_of b.price ≤ MAX_PRICE = subst (λ n. 10 ^ rule.tens * n ≤ MAX_PRICE) (sym b.price_spelled.value)
        (times_small rule b.price b.bid.price b.price_spelled small second) in
        subst (λ (vs : List Word). 10 ^ rule.tens * (bid_of G vs).price ≤ MAX_PRICE) (sym b.words_are) fits

    each_fits : (g : PlainFile) (G : ℕ) (lines : List (List Word)) → IsPlainFile g → AllByRecursion (SpellsBid f) lines
        → AllByRecursion (SpellsBid g) (map (rounded_line_words rule) lines) → AllByRecursion (λ l. Fits (bid_of G l)) lines
    each_fits g G [] facts h k = tt
    each_fits g G (l ∷ ls) facts h k = (line_fits g G l facts h.0 k.0, each_fits g G ls facts h.1 k.1)

    bids_are : f.bids ≡ filled (slots_of (header_value (codes "goods" ∷ s.goods ∷ [])) s.bid_lines)
    bids_are = ap (λ (h : PlainFile). h.bids) (says_spelled text f s) ∙ ap (λ (ws : List (List Word)). (file_of_lines ws).bids) s.lines_are

    all_fit : (g : PlainFile) → Spells (rounded_text rule text) g → AllByRecursion Fits f.bids
    all_fit g t =
        let lines : t.bid_lines ≡ map (rounded_line_words rule) s.bid_lines = same_lines (sym t.lines_are ∙ lines_are) in
        let each : AllByRecursion (SpellsBid g) (map (rounded_line_words rule) s.bid_lines) = subst (AllByRecursion (SpellsBid g)) lines t.each in
        subst (AllByRecursion Fits) (sym bids_are) (bids_all (header_value (codes "goods" ∷ s.goods ∷ [])) Fits s.bid_lines
        (each_fits g (header_value (codes "goods" ∷ s.goods ∷ [])) s.bid_lines t.facts s.each each))
      where
        same_lines : {a b c d e h : List Word} {xs ys : List (List Word)} → a ∷ b ∷ c ∷ xs ≡ d ∷ e ∷ h ∷ ys → xs ≡ ys
        same_lines q = ap (drop 3) q

    bids_times : (G D : ℕ) (bids : List PlainBid) → AllByRecursion (IsBid G D) bids → AllByRecursion Fits bids
        → AllByRecursion (IsBid G D) (map (times_bid (10 ^ rule.tens)) bids)
    unfolding Fits
    bids_times G D [] h k = tt
    bids_times G D (b ∷ bs) h k = (
      record { price = k.0; goods = h.0.goods; rising = h.0.rising; below = h.0.below; dummy = h.0.dummy },
      bids_times G D bs h.1 k.1,
    )

    times_is_file : (g : PlainFile) → Spells (rounded_text rule text) g → IsPlainFile times
    times_is_file g t = record {
      goods = s.facts.goods;
      dummy = s.facts.dummy;
      count = omega (arith, s.facts.count, same_count);
      each = bids_times f.goods f.dummy f.bids s.facts.each (all_fit g t);
    }

    pub is_times : (g : PlainFile) → Spells (rounded_text rule text) g → g ≡ times
    is_times g t = spells_one (rounded_text rule text) g times t (spells_times (times_is_file g t))
