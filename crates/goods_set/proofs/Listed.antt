-- The goods of words, listed: those of one word after another, and in a word the index of its lowest bit that is set, and then
-- those of the word without it.
use Rattle.goods_set.proofs.Common.{rules, ◌≡◌, ℕ, zero, suc, ◌+◌, ◌-◌, ◌*◌, ◌^◌, ◌<◌, ◌≤◌, ◌≢◌, Bool, true, false, cond, eqb, ⊎_elim, List, [], ◌∷◌}
use Rattle.goods_set.proofs.Common.{◌++◌, map, length, get_or, refl, sym, ap, ap₂, ◌∙◌, arith, append_assoc, w64, filter, range_with_len, bit_at}
use Rattle.goods_set.proofs.Common.{trailing_zeros, bit_and, cases_eq, cases_lt, eq-eqb, or_left, or_right, append-nil, bit_at-trailing_zeros, AreAbove}
use Rattle.goods_set.proofs.Common.{has_good, without_lowest, AreAbove-from_has, has_cases, same_from_has, word_bit, word_bit_at, word_goods_bundle}
use Rattle.goods_set.proofs.Common.{word_goods_has, word_goods_parts}
use Rattle.goods_set.specs.Words.{word_goods}
use Rattle.goods_set.proofs.Bits.{no_bits}

-- ---- one word

one_word : (w i : ℕ) → i < 64 → word_bit (w ∷ []) i ≡ bit_at w i
one_word w i l = search rules

one_word_has : (w i : ℕ) → i < 64 → bit_at w i ≡ 1 → has_good (word_goods 64 (w ∷ [])) i ≡ true
one_word_has w i l e = word_goods_has 64 (w ∷ []) i l (one_word w i l ∙ e)

one_word_parts : (w i : ℕ) → has_good (word_goods 64 (w ∷ [])) i ≡ true → (i < 64) × (bit_at w i ≡ 1)
one_word_parts w i h = search (rules, word_goods_parts, one_word)

-- the word without its lowest bit
abbrev later_bits : ℕ → ℕ
later_bits w = bit_and w (w - 1)

lowest_first : (w t : ℕ) → t < 64 → bit_at w t ≡ 1 → ((i : ℕ) → i < t → bit_at w i ≡ 0) → word_goods 64 (w ∷ []) ≡ t ∷ word_goods 64 (later_bits w ∷ [])
lowest_first w t l here low = same_from_has (word_goods 64 (w ∷ [])) (t ∷ word_goods 64 (later_bits w ∷ [])) (word_goods_bundle 64 (w ∷ [])).0 (
  above,
  (word_goods_bundle 64 (later_bits w ∷ [])).0,
) (search (rules, one_word_parts, or_left, eq-eqb, or_right, one_word_has, other, cases_eq)) (search (rules, one_word_has, left, has_cases))
  where
    other : (g : ℕ) → g < 64 → (t ≡ g → ⊥) → bit_at (later_bits w) g ≡ bit_at w g
    other g m n = (without_lowest w t here low).1 g n

    -- a bit of the word without it is a later bit of the word
    left : (g : ℕ) → has_good (word_goods 64 (later_bits w ∷ [])) g ≡ true → (t < g) × (has_good (word_goods 64 (w ∷ [])) g ≡ true)
    left g k =
        let p : (g < 64) × (bit_at (later_bits w) g ≡ 1) = one_word_parts (later_bits w) g k in
        let gone : bit_at (later_bits w) t ≡ 0 = (without_lowest w t here low).0 in
        let n : t ≢ g = λ e. (let z : bit_at (later_bits w) g ≡ 0 = ap (bit_at (later_bits w)) (sym e) ∙ gone in omega arith) in
        let b : bit_at w g ≡ 1 = sym (other g p.0 n) ∙ p.1 in (
          ⊎_elim (λ (m : g < t). let z : bit_at w g ≡ 0 = low g m in absurd (omega arith)) (λ (m : t ≤ g). let r : t < g = omega arith in r) (cases_lt g t),
          one_word_has w g p.0 b,
        )

    above : AreAbove t (word_goods 64 (later_bits w ∷ []))
    above = AreAbove-from_has t (word_goods 64 (later_bits w ∷ [])) (λ g k. (left g k).0)

-- the step of a loop over the bits of a word
pub bits_more : (w t first : ℕ) (out new all : List ℕ) → w ≢ 0 → w < 2 ^ 64 → t ≡ trailing_zeros w64 w → new ≡ out ++ (first + t) ∷ []
    → out ++ map (λ index. first + index) (word_goods 64 (w ∷ [])) ≡ all → new ++ map (λ index. first + index) (word_goods 64 (later_bits w ∷ [])) ≡ all
bits_more w t first out new all some fits is more before =
    let low : (trailing_zeros w64 w < 64) × (bit_at w (trailing_zeros w64 w) ≡ 1) × ((i : ℕ) → i < trailing_zeros w64 w → bit_at w i ≡ 0) =
    bit_at-trailing_zeros w64 w (omega arith) fits in
    search (rules, lowest_first, append_assoc)

-- no bit is left
pub bits_all : (first : ℕ) (out all : List ℕ) (w : ℕ) → w ≡ 0 → out ++ map (λ index. first + index) (word_goods 64 (w ∷ [])) ≡ all → out ≡ all
bits_all first out all w none before =
    let empty : word_goods 64 (w ∷ []) ≡ [] = ap (λ v. word_goods 64 (v ∷ [])) none ∙ no_bits 64 1 in
    sym (append-nil out) ∙ ap (λ (xs : List ℕ). out ++ map (λ index. first + index) xs) (sym empty) ∙ before

-- how many bits are left falls
pub fewer_bits : (w t : ℕ) → w ≢ 0 → w < 2 ^ 64 → t ≡ trailing_zeros w64 w → length (word_goods 64 (later_bits w ∷ []))
    < length (word_goods 64 (w ∷ []))
fewer_bits w t some fits is =
    let low : (trailing_zeros w64 w < 64) × (bit_at w (trailing_zeros w64 w) ≡ 1) × ((i : ℕ) → i < trailing_zeros w64 w → bit_at w i ≡ 0) =
    bit_at-trailing_zeros w64 w (omega arith) fits in
    search (rules, lowest_first)

-- ---- one word after another

filter_split : (p : ℕ → Bool) (a m n : ℕ) → filter p (range_with_len a (m + n)) ≡ filter p (range_with_len a m) ++ filter p (range_with_len (a + m) n)
filter_split p a zero n = search rules
filter_split p a (suc m) n =
    let z : suc m + n ≡ suc (m + n) = omega arith in
    search (rules, one, (filter_split p (a + 1) m n))
  where
    one : (c : Bool) → filter p (range_with_len (a + 1) (m + n)) ≡ filter p (range_with_len (a + 1) m) ++ filter p (range_with_len (a + 1 + m) n)
        → cond c (a ∷ filter p (range_with_len (a + 1) (m + n))) (filter p (range_with_len (a + 1) (m + n))) ≡ cond c (a ∷ filter p (range_with_len (a + 1) m))
        (filter p (range_with_len (a + 1) m)) ++ filter p (range_with_len (a + 1 + m) n)
    one true h = ap (λ (xs : List ℕ). a ∷ xs) h
    one false h = h

-- the goods from the one at bit i of word k on, by the bits of the word
shifted : (ws : List ℕ) (k j i n : ℕ) → j ≡ 64 * k + i → i + n ≤ 64 → filter (λ g. eqb (word_bit ws g) 1) (range_with_len j n)
    ≡ map (λ index. 64 * k + index) (filter (λ g. eqb (word_bit (get_or ws k 0 ∷ []) g) 1) (range_with_len i n))
shifted ws k j i zero e l = refl
shifted ws k j i (suc n) e l = search (rules, word_bit_at, one_word, (shifted ws k (j + 1) (i + 1) n (omega arith) (omega arith)))

one_word_more : (ws : List ℕ) (k : ℕ) → word_goods (64 * (k + 1)) ws ≡ word_goods (64 * k) ws ++ map (λ index. 64 * k + index)
    (word_goods 64 (get_or ws k 0 ∷ []))
unfolding word_goods
one_word_more ws k =
    let d : 64 * (k + 1) ≡ 64 * k + 64 = omega arith in
    let z : 0 + 64 * k ≡ 64 * k + 0 = omega arith in
    ap (λ n. filter (λ g. eqb (word_bit ws g) 1) (range_with_len 0 n)) d ∙ filter_split (λ g. eqb (word_bit ws g) 1) 0 (64 * k) 64
    ∙ ap (λ (xs : List ℕ). filter (λ g. eqb (word_bit ws g) 1) (range_with_len 0 (64 * k)) ++ xs) (shifted ws k (0 + 64 * k) 0 64 z (omega arith))

-- the step of a loop over words
pub words_more : (ws : List ℕ) (k first word : ℕ) (before out new : List ℕ) → first ≡ 64 * k → word ≡ get_or ws k 0 → out ≡ before ++ word_goods (64 * k) ws
    → new ≡ out ++ map (λ index. first + index) (word_goods 64 (word ∷ [])) → new ≡ before ++ word_goods (64 * (k + 1)) ws
words_more ws k first word before out new f w so more =
    more ∙ ap₂ (λ (n v : ℕ). out ++ map (λ index. n + index) (word_goods 64 (v ∷ []))) f w
    ∙ ap (λ (xs : List ℕ). xs ++ map (λ index. 64 * k + index) (word_goods 64 (get_or ws k 0 ∷ []))) so
    ∙ append_assoc before (word_goods (64 * k) ws) (map (λ index. 64 * k + index) (word_goods 64 (get_or ws k 0 ∷ [])))
    ∙ ap (λ (xs : List ℕ). before ++ xs) (sym (one_word_more ws k))

pub words_none : (ws before : List ℕ) → before ≡ before ++ word_goods (64 * 0) ws
unfolding word_goods
words_none ws before = sym (append-nil before)
