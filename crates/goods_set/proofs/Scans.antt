-- What goes through the words of a set from the first. How many goods they hold: the ones of each word. The next good: the lowest
-- one of the first word that has one from there on.
use Rattle.goods_set.proofs.Common.{rules, ◌≡◌, ℕ, zero, suc, ◌+◌, ◌-◌, ◌*◌, ◌/◌, ◌%◌, ◌^◌, ◌<◌, ◌≤◌, ◌≢◌, Bool, true, false, cond, eqb, ◌⊎◌, inl, inr, ⊎_elim}
use Rattle.goods_set.proofs.Common.{List, ◌∷◌, map, length, get_or, refl, sym, ap, ◌∙◌, subst, arith, w64, min, Some, None, filter, range_with_len, bit_at}
use Rattle.goods_set.proofs.Common.{trailing_zeros, bit_and, count_ones, mask_l, cases_lt, cases_eq, eq-eqb, ne_eqb, length-map, length-filter}
use Rattle.goods_set.proofs.Common.{length-range_with_len, get_or-map-range_with_len, bit_at-lt, bit_at-zero, bit_at_and, bit_at-trailing_zeros}
use Rattle.goods_set.proofs.Common.{bit_at_mask_inside, bit_at_mask_below, ones_shl, same_from_bits_below, and_le_l, mask_l-lt, bit_mask_l, ones-mask_l}
use Rattle.goods_set.proofs.Common.{good_from, good_from-Some, good_from_next, good_from_none, word_bit, word_bit_at, word_goods_bundle, word_goods_has}
use Rattle.goods_set.proofs.Common.{word_goods_parts, word_goods_lacks, word_goods_past}
use Rattle.goods_set.specs.Words.{word_goods}

-- ---- how many

-- the word is the number whose bits it has
word_from_bits : (w : ℕ) → w < 2 ^ 64 → mask_l (map (λ i. eqb (bit_at w i) 1) (range_with_len 0 64)) ≡ w
word_from_bits w l =
    let f : ℕ → Bool = λ i. eqb (bit_at w i) 1 in
    let n : length (map (λ i. eqb (bit_at w i) 1) (range_with_len 0 64)) ≡ 64 = length-map (range_with_len 0 64) (λ i. eqb (bit_at w i) 1)
    ∙ length-range_with_len 0 64 in
    let m : mask_l (map (λ i. eqb (bit_at w i) 1) (range_with_len 0 64)) < 2 ^ 64 =
    subst (λ k. mask_l (map (λ i. eqb (bit_at w i) 1) (range_with_len 0 64)) < 2 ^ k) n (mask_l-lt (map (λ i. eqb (bit_at w i) 1) (range_with_len 0 64))) in
    same_from_bits_below 64 (mask_l (map (λ i. eqb (bit_at w i) 1) (range_with_len 0 64))) w m l (λ i k.
    bit_mask_l (map (λ j. eqb (bit_at w j) 1) (range_with_len 0 64)) i
    ∙ ap (λ b. cond b 1 0) (get_or-map-range_with_len (λ j. eqb (bit_at w j) 1) 0 64 i i false k (omega arith)) ∙ bit (bit_at w i) (bit_at-lt w i))
  where
    bit : (b : ℕ) → b < 2 → cond (eqb b 1) 1 0 ≡ b
    bit b l = ⊎_elim (λ (e : b ≡ 1). rw (eq-eqb b 1 e) (sym e)) (λ (n : b ≡ 1 → ⊥). let z : b ≡ 0 = omega arith in rw (ne_eqb b 1 n) (sym z)) (cases_eq b 1)

ones_are : (w : ℕ) → w < 2 ^ 64 → length (filter (λ i. eqb (bit_at w i) 1) (range_with_len 0 64)) ≡ count_ones w
ones_are w l = length-filter (λ i. eqb (bit_at w i) 1) (range_with_len 0 64) ∙ sym (ones-mask_l (λ i. eqb (bit_at w i) 1) (range_with_len 0 64))
    ∙ ap count_ones (word_from_bits w l)

-- the bits of one word among the goods
bits_of_word : (ws : List ℕ) (k j i n : ℕ) → j ≡ 64 * k + i → i + n ≤ 64 → length (filter (λ g. eqb (word_bit ws g) 1) (range_with_len j n))
    ≡ length (filter (λ b. eqb (bit_at (get_or ws k 0) b) 1) (range_with_len i n))
bits_of_word ws k j i zero e l = refl
bits_of_word ws k j i (suc n) e l = search (rules, word_bit_at, (bits_of_word ws k (j + 1) (i + 1) n (omega arith) (omega arith)))

filter_range : (p : ℕ → Bool) (a m n : ℕ) → length (filter p (range_with_len a (m + n))) ≡ length (filter p (range_with_len a m))
    + length (filter p (range_with_len (a + m) n))
filter_range p a zero n = search rules
filter_range p a (suc m) n =
    let z : suc m + n ≡ suc (m + n) = omega arith in
    search (rules, one, (filter_range p (a + 1) m n))
  where
    one : (c : Bool) → length (filter p (range_with_len (a + 1) (m + n))) ≡ length (filter p (range_with_len (a + 1) m))
        + length (filter p (range_with_len (a + 1 + m) n))
        → length (cond c (a ∷ filter p (range_with_len (a + 1) (m + n))) (filter p (range_with_len (a + 1) (m + n))))
        ≡ length (cond c (a ∷ filter p (range_with_len (a + 1) m)) (filter p (range_with_len (a + 1) m))) + length (filter p (range_with_len (a + 1 + m) n))
    one true h = omega arith
    one false h = h

-- the step of a loop that counts
pub count_more : (ws : List ℕ) (k : ℕ) → get_or ws k 0 < 2 ^ 64 → length (word_goods (64 * (k + 1)) ws) ≡ length (word_goods (64 * k) ws)
    + count_ones (get_or ws k 0)
unfolding word_goods
count_more ws k l =
    let d : 64 * (k + 1) ≡ 64 * k + 64 = omega arith in
    let z : 0 + 64 * k ≡ 64 * k + 0 = omega arith in
    ap (λ n. length (filter (λ g. eqb (word_bit ws g) 1) (range_with_len 0 n))) d ∙ filter_range (λ g. eqb (word_bit ws g) 1) 0 (64 * k) 64
    ∙ ap (λ n. length (filter (λ g. eqb (word_bit ws g) 1) (range_with_len 0 (64 * k))) + n) (bits_of_word ws k (0 + 64 * k) 0 64 z (omega arith)
    ∙ ones_are (get_or ws k 0) l)

pub count_none : (ws : List ℕ) → length (word_goods (64 * 0) ws) ≡ 0
unfolding word_goods
count_none ws = refl

length_filter : (p : ℕ → Bool) (a n : ℕ) → length (filter p (range_with_len a n)) ≤ n
length_filter p a zero = omega arith
length_filter p a (suc n) = search (rules, (length_filter p (a + 1) n))

pub count_fits : (cap : ℕ) (ws : List ℕ) → length (word_goods cap ws) ≤ cap
unfolding word_goods
count_fits cap ws = length_filter (λ g. eqb (word_bit ws g) 1) 0 cap

-- ---- the next good

-- a scan from `from` on has come to the word at `index`, of which `rest` is what is left
pub record IsScan (ws : List ℕ) (from index rest : ℕ) : Type 0 where
  pub reached : from < 64 * (index + 1)
  pub passed : (g : ℕ) → from ≤ g → g < 64 * index → word_bit ws g ≡ 0
  pub fits : rest < 2 ^ 64
  pub above : (i : ℕ) → i < 64 → from ≤ 64 * index + i → bit_at rest i ≡ bit_at (get_or ws index 0) i
  pub below : (i : ℕ) → i < 64 → 64 * index + i < from → bit_at rest i ≡ 0

scan_masked : (w k rest i : ℕ) → k < 64 → rest ≡ bit_and w ((2 ^ 64 - 1) * 2 ^ k % 2 ^ 64) → bit_at rest i ≡ min (bit_at w i) (bit_at (2 ^ 64 - 2 ^ k) i)
scan_masked w k rest i l is = search (rules, bit_at_and, ones_shl)

scan_kept : (w k rest i : ℕ) → k < 64 → rest ≡ bit_and w ((2 ^ 64 - 1) * 2 ^ k % 2 ^ 64) → k ≤ i → i < 64 → bit_at rest i ≡ bit_at w i
scan_kept w k rest i l is a b =
    let e : bit_at rest i ≡ min (bit_at w i) (bit_at (2 ^ 64 - 2 ^ k) i) = scan_masked w k rest i l is in
    let m : bit_at (2 ^ 64 - 2 ^ k) i ≡ 1 = bit_at_mask_inside k 64 i a b in
    let s : bit_at w i < 2 = bit_at-lt w i in
    omega arith

scan_left_out : (w k rest i : ℕ) → k < 64 → rest ≡ bit_and w ((2 ^ 64 - 1) * 2 ^ k % 2 ^ 64) → i < k → bit_at rest i ≡ 0
scan_left_out w k rest i l is a =
    let e : bit_at rest i ≡ min (bit_at w i) (bit_at (2 ^ 64 - 2 ^ k) i) = scan_masked w k rest i l is in
    let m : bit_at (2 ^ 64 - 2 ^ k) i ≡ 0 = bit_at_mask_below k 64 i a in
    omega arith

pub scan_begun : (ws : List ℕ) (from index rest : ℕ) → index ≡ from / 64 → get_or ws index 0 < 2 ^ 64
    → rest ≡ bit_and (get_or ws index 0) ((2 ^ 64 - 1) * 2 ^ (from % 64) % 2 ^ 64) → IsScan ws from index rest
scan_begun ws from index rest e l is = search (rules, and_le_l, scan_kept, scan_left_out)

-- where the rest is 0, the word has no good from `from` on
scan_passed : (ws : List ℕ) (from index rest : ℕ) → IsScan ws from index rest → rest ≡ 0 → (g : ℕ) → from ≤ g → g < 64 * (index + 1) → word_bit ws g ≡ 0
scan_passed ws from index rest s z g a b = search (rules, cases_lt, word_bit_at, bit_at-zero)

-- every word is passed
pub scan_ended : (n : ℕ) (ws : List ℕ) (from index rest : ℕ) → IsScan ws from index rest → rest ≡ 0 → n ≤ index + 1
    → good_from (word_goods (64 * n) ws) from ≡ None
scan_ended n ws from index rest s z l = search (rules, good_from_none, word_goods_bundle, word_goods_lacks, scan_passed, word_goods_past, cases_lt)

pub scan_outside : (n : ℕ) (ws : List ℕ) (from : ℕ) → n ≤ from / 64 → good_from (word_goods (64 * n) ws) from ≡ None
scan_outside n ws from l = good_from_none (word_goods (64 * n) ws) from (word_goods_bundle (64 * n) ws).0 (λ g a. word_goods_past (64 * n) ws g (omega arith))

-- the lowest one of the rest is the next good
pub scan_found : (n : ℕ) (ws : List ℕ) (from index rest : ℕ) → IsScan ws from index rest → rest ≢ 0 → index < n
    → good_from (word_goods (64 * n) ws) from ≡ Some (64 * index + trailing_zeros w64 rest)
scan_found n ws from index rest s z l =
    let t : (trailing_zeros w64 rest < 64) × (bit_at rest (trailing_zeros w64 rest) ≡ 1) × ((i : ℕ) → i < trailing_zeros w64 rest → bit_at rest i ≡ 0) =
    bit_at-trailing_zeros w64 rest (omega arith) s.fits in
    found (trailing_zeros w64 rest) t.0 t.1 t.2 (cases_lt (64 * index + trailing_zeros w64 rest) from)
  where
    found : (i : ℕ) → i < 64 → bit_at rest i ≡ 1 → ((j : ℕ) → j < i → bit_at rest j ≡ 0) → (64 * index + i < from) ⊎ (from ≤ 64 * index + i)
        → good_from (word_goods (64 * n) ws) from ≡ Some (64 * index + i)
    found i k b low (inl c) = let e : bit_at rest i ≡ 0 = s.below i k c in absurd (omega arith)
    found i k b low (inr c) = good_from_next (word_goods (64 * n) ws) from (64 * index + i) (word_goods_bundle (64 * n) ws).0 (record {
      there = word_goods_has (64 * n) ws (64 * index + i) (omega arith) (word_bit_at ws index i k ∙ sym (s.above i k c) ∙ b);
      from = c;
      least = λ g d f. word_goods_lacks (64 * n) ws g (⊎_elim (λ (q : g < 64 * index). s.passed g d q) (λ (q : 64 * index ≤ g).
          let m : 64 * index + (g - 64 * index) ≡ g = omega arith in
          let e : word_bit ws (64 * index + (g - 64 * index)) ≡ 0 = word_bit_at ws index (g - 64 * index) (omega arith)
          ∙ sym (s.above (g - 64 * index) (omega arith) (omega arith)) ∙ low (g - 64 * index) (omega arith) in
          subst (λ x. word_bit ws x ≡ 0) m e) (cases_lt g (64 * index)));
    })

-- the next good is below the bound
pub next_below : (cap : ℕ) (ws : List ℕ) (from good : ℕ) → good_from (word_goods cap ws) from ≡ Some good → good < cap
next_below cap ws from good e = (word_goods_parts cap ws good (good_from-Some (word_goods cap ws) from good (word_goods_bundle cap ws).0 e).there).0
