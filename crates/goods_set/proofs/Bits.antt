-- One good's bit in the words of a set: read, set, and in a set with no goods. It is in the word of the good, at the good modulo
-- 64, and setting it leaves all others as they are.
use Rattle.goods_set.proofs.Common.{rules, ◌≡◌, ℕ, ◌*◌, ◌/◌, ◌%◌, ◌^◌, min, ◌<◌, ◌≢◌, not, eqb, ⊎_elim, List, [], length}
use Rattle.goods_set.proofs.Common.{take, common_steps, get_or, set, replicate, sym, ap, ◌∙◌, arith, w64, shl_exact, get_or-set_same}
use Rattle.goods_set.proofs.Common.{bit_at, bit_and, bit_or, both_ways, cases_eq, cases_Bool, eq-eqb, ne_eqb}
use Rattle.goods_set.proofs.Common.{eqb-true, ltb-true, ltb-false, false_from_ne_true, or_left, or_right, or_cases, bit_at-lt, bit_at-zero, shr_and_one}
use Rattle.goods_set.proofs.Common.{and_pow, bit_at_set_same, bit_at_set_other, get_or-replicate, length-replicate, get_or_past, has_good, with_good}
use Rattle.goods_set.proofs.Common.{same_from_has, has-with_good, IsRising-with_good, word_bit, word_goods, word_cap, word_goods_bundle, word_goods_has}
use Rattle.goods_set.proofs.Common.{word_goods_parts, word_goods_same}

-- ---- a bit that is read

pub has-word_goods : (cap : ℕ) (ws : List ℕ) (g : ℕ) → g < cap → has_good (word_goods cap ws) g ≡ eqb (word_bit ws g) 1
has-word_goods cap ws g l = search (rules, word_goods_has, eq-eqb, false_from_ne_true, word_goods_parts, ne_eqb, cases_eq)

-- the test `(word >> bit) & 1 == 1`
pub tested_shifted : (cap : ℕ) (ws : List ℕ) (g p : ℕ) → p ≡ g / 64 → g < cap → eqb (bit_and (get_or ws p 0 / 2 ^ (g % 64)) 1) 1
    ≡ has_good (word_goods cap ws) g
tested_shifted cap ws g p e l = search (rules, shr_and_one, has-word_goods)

pub one_shifted : (k : ℕ) → k < 64 → 1 * 2 ^ k % 2 ^ 64 ≡ 2 ^ k
one_shifted k l = shl_exact {a = 1} 1 (k) 64 (omega arith) (omega arith) ∙ (let e : 1 * 2 ^ k ≡ 2 ^ k = omega arith in e)

-- the test `word & (1 << bit) == 0`
pub tested_masked : (cap : ℕ) (ws : List ℕ) (g p : ℕ) → p ≡ g / 64 → g < cap → eqb (bit_and (get_or ws p 0) (1 * 2 ^ (g % 64) % 2 ^ 64)) 0
    ≡ not (has_good (word_goods cap ws) g)
tested_masked cap ws g p e l = search (rules, one_shifted, and_pow, bit_at-lt, has-word_goods, eq-eqb, ne_eqb, cases_eq)

-- ---- a bit that is set

-- words that differ from others by the bit of g hold g beside their goods
one_more : (cap : ℕ) (ws vs : List ℕ) (g : ℕ) → g < cap → word_bit vs g ≡ 1 → ((x : ℕ) → (g ≡ x → ⊥) → word_bit vs x ≡ word_bit ws x)
    → word_goods cap vs ≡ with_good g (word_goods cap ws)
one_more cap ws vs g m same other =
    search (
      rules,
      same_from_has,
      word_goods_bundle,
      IsRising-with_good,
      word_goods_parts,
      has-with_good,
      or_left,
      eq-eqb,
      or_right,
      word_goods_has,
      cases_eq,
      eqb-true,
      or_cases,
    )

bit_set_same : (ws : List ℕ) (g p : ℕ) → p ≡ g / 64 → p < length ws → word_bit (set ws p (bit_or (get_or ws p 0) (1 * 2 ^ (g % 64) % 2 ^ 64))) g ≡ 1
bit_set_same ws g p e l =
    let h : get_or (set ws p (bit_or (get_or ws p 0) (1 * 2 ^ (g % 64) % 2 ^ 64))) p 0 ≡ bit_or (get_or ws p 0) (1 * 2 ^ (g % 64) % 2 ^ 64) = search rules in
    ap (λ q. bit_at (get_or (set ws p (bit_or (get_or ws p 0) (1 * 2 ^ (g % 64) % 2 ^ 64))) q 0) (g % 64)) (sym e) ∙ ap (λ w. bit_at w (g % 64)) h
    ∙ bit_at_set_same w64 (get_or ws p 0) (g % 64) (omega arith)

bit_set_other : (ws : List ℕ) (g p x : ℕ) → p ≡ g / 64 → p < length ws → (g ≡ x → ⊥)
    → word_bit (set ws p (bit_or (get_or ws p 0) (1 * 2 ^ (g % 64) % 2 ^ 64))) x ≡ word_bit ws x
bit_set_other ws g p x e l n = ⊎_elim (λ (d : x / 64 ≡ p).
    let m : x % 64 ≢ g % 64 = λ f. n (let r : g ≡ x = omega arith in r) in
    let h : get_or (set ws p (bit_or (get_or ws p 0) (1 * 2 ^ (g % 64) % 2 ^ 64))) p 0 ≡ bit_or (get_or ws p 0) (1 * 2 ^ (g % 64) % 2 ^ 64) =
    get_or-set_same ws p (bit_or (get_or ws p 0) (1 * 2 ^ (g % 64) % 2 ^ 64)) 0 l in
    ap (λ q. bit_at (get_or (set ws p (bit_or (get_or ws p 0) (1 * 2 ^ (g % 64) % 2 ^ 64))) q 0) (x % 64)) d ∙ ap (λ w. bit_at w (x % 64)) h
    ∙ bit_at_set_other w64 (get_or ws p 0) (g % 64) (omega arith) (x % 64) m ∙ ap (λ q. bit_at (get_or ws q 0) (x % 64)) (sym d)) (search rules)
    (cases_eq (x / 64) p)

pub with_bit : (cap : ℕ) (ws : List ℕ) (g p : ℕ) → p ≡ g / 64 → p < length ws → g < cap
    → word_goods cap (set ws p (bit_or (get_or ws p 0) (1 * 2 ^ (g % 64) % 2 ^ 64))) ≡ with_good g (word_goods cap ws)
with_bit cap ws g p e l m = search (rules, one_more, bit_set_same, bit_set_other)

-- ---- no bit set

pub zeros : (n k : ℕ) → get_or {A = ℕ} (replicate n 0) k 0 ≡ 0
zeros n k = search (rules, get_or-replicate, ltb-true, ltb-false, get_or_past, length-replicate, cases_Bool)

pub no_bits : (cap n : ℕ) → word_goods cap (replicate n 0) ≡ []
no_bits cap n = search (rules, same_from_has, word_goods_bundle, word_goods_parts, zeros, bit_at-zero, both_ways)

-- ---- the words that may hold goods

pub used_goods : (n : ℕ) (ws : List ℕ) (m : ℕ) → length ws ≡ n → m ≡ min n 1024 → word_goods (64 * length (take m ws)) (take m ws) ≡ word_goods (word_cap n) ws
used_goods n ws m e f = grind (arith, common_steps, word_goods_same)
