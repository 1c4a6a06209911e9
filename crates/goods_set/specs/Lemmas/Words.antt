-- The goods of words, bit by bit: what is inside, apart and left, by the words' bits.
use Rattle.std.proofs.Common.{rules, ◌≡◌, ℕ, zero, suc, ◌+◌, ◌-◌, ◌*◌, ◌/◌, ◌%◌, ◌^◌, min, ◌<◌, ◌≤◌, ◌≢◌, Bool, true, false, eqb, List, get_or, refl, sym, ap}
use Rattle.std.proofs.Common.{◌∙◌, arith, w64}
use Rattle.std.specs.List.{range_with_len}
use Rattle.std.specs.Int.{bit_at, bit_not, trailing_zeros}
use Rattle.std.specs.Int.RustNames.{bit_and}
use Rattle.std.proofs.lemmas.Nat.Bits.{bit_at-lt, bit_at-zero, bit_at_and, bit_at_not, bit_at-trailing_zeros}
use Rattle.std.proofs.lemmas.Nat.{and_le_l}
use Rattle.std.proofs.lemmas.Bool.{and_parts, and_from, both_ways, eqb-true, eq-eqb, false_from_ne_true}
use Rattle.goods_set.specs.Bundles.{AreAbove, AreBelow, IsRising, IsBundle, has_good, is_inside, are_apart, without}
use Rattle.goods_set.specs.Lemmas.Members.{has_below, AreBelow-filter, has-filter, IsRising-filter, same_from_has, inside_at, inside_from, apart_at, apart_from}
use Rattle.goods_set.specs.Lemmas.Members.{has_without_from, has_without_parts, IsRising-without}
use Rattle.goods_set.specs.Lemmas.Sizes.{filter_same}
use Rattle.goods_set.specs.Words.{word_bit, word_goods, word_cap}

-- ---- ranges

range_above : (a b n : ℕ) → a < b → AreAbove a (range_with_len b n)
range_above a b zero l = tt
range_above a b (suc n) l = (l, range_above a (b + 1) n (omega arith))

pub range_rises : (a n : ℕ) → IsRising (range_with_len a n)
range_rises a zero = tt
range_rises a (suc n) = (range_above a (a + 1) n (omega arith), range_rises (a + 1) n)

range_below : (a n G : ℕ) → a + n ≤ G → AreBelow G (range_with_len a n)
range_below a zero G l = tt
range_below a (suc n) G l = (omega arith, range_below (a + 1) n G (omega arith))

pub range_has : (a n g : ℕ) → a ≤ g → g < a + n → has_good (range_with_len a n) g ≡ true
range_has a zero g l m = absurd (omega arith)
range_has a (suc n) g l m = at (eqb a g) refl (λ (h : a < g). range_has (a + 1) n g (omega arith) (omega arith))
  where
    at : (b : Bool) → eqb a g ≡ b → (a < g → has_good (range_with_len (a + 1) n) g ≡ true) → has_good (range_with_len a (suc n)) g ≡ true
    at true e f = rw e refl
    at false e f = rw e (f (let d : a ≢ g = λ q. both_ways (eqb a g) e (eq-eqb a g q) in omega arith))

-- ---- the goods of words

pub word_goods_bundle : (cap : ℕ) (ws : List ℕ) → IsBundle cap (word_goods cap ws)
unfolding word_goods
word_goods_bundle cap ws = search (rules, IsRising-filter, range_rises, range_below, AreBelow-filter)

pub word_goods_rise : (cap : ℕ) (ws : List ℕ) → IsRising (word_goods cap ws)
word_goods_rise cap ws = (word_goods_bundle cap ws).0

pub word_goods_has : (cap : ℕ) (ws : List ℕ) (g : ℕ) → g < cap → word_bit ws g ≡ 1 → has_good (word_goods cap ws) g ≡ true
unfolding word_goods
word_goods_has cap ws g l e = search (rules, has-filter, and_from, eq-eqb, range_has)

pub word_goods_parts : (cap : ℕ) (ws : List ℕ) (g : ℕ) → has_good (word_goods cap ws) g ≡ true → (g < cap) × (word_bit ws g ≡ 1)
unfolding word_goods
word_goods_parts cap ws g h = search (rules, and_parts, has-filter, has_below, range_below, eqb-true)

pub word_goods_same : (cap : ℕ) (ws vs : List ℕ) → ((g : ℕ) → g < cap → word_bit ws g ≡ word_bit vs g) → word_goods cap ws ≡ word_goods cap vs
unfolding word_goods
word_goods_same cap ws vs h = search (rules, filter_same, has_below, range_below)

-- a good that is not there has its bit clear
pub word_goods_lacks : (cap : ℕ) (ws : List ℕ) (g : ℕ) → word_bit ws g ≡ 0 → has_good (word_goods cap ws) g ≡ false
word_goods_lacks cap ws g e = search (rules, false_from_ne_true, word_goods_parts)

pub word_goods_past : (cap : ℕ) (ws : List ℕ) (g : ℕ) → cap ≤ g → has_good (word_goods cap ws) g ≡ false
word_goods_past cap ws g l = search (rules, false_from_ne_true, word_goods_parts)

-- ---- one word

-- no bit of a is outside b: what `a & !b == 0` says, and its contrary
pub bits_inside : (a b i : ℕ) → b < 2 ^ 64 → bit_and a (bit_not w64 b) ≡ 0 → i < 64 → bit_at a i ≡ 1 → bit_at b i ≡ 1
bits_inside a b i l e m h =
    let n : bit_at (bit_not w64 b) i ≡ 1 - bit_at b i = bit_at_not w64 b i l m in
    let z : min (bit_at a i) (bit_at (bit_not w64 b) i) ≡ 0 = sym (bit_at_and a (bit_not w64 b) i) ∙ ap (λ x. bit_at x i) e ∙ bit_at-zero i in
    let s : bit_at b i < 2 = bit_at-lt b i in
    omega arith

pub record BitOutside (a b : ℕ) : Type 0 where
  pub bit : ℕ
  pub within : bit < 64
  pub there : bit_at a bit ≡ 1
  pub missing : bit_at b bit ≡ 0

pub bit_outside : (a b : ℕ) → a < 2 ^ 64 → b < 2 ^ 64 → bit_and a (bit_not w64 b) ≢ 0 → BitOutside a b
bit_outside a b l m n =
    let d : ℕ = bit_and a (bit_not w64 b) in
    let small : bit_and a (bit_not w64 b) ≤ a = and_le_l a (bit_not w64 b) in
    let t : (trailing_zeros w64 d < 64) × (bit_at d (trailing_zeros w64 d) ≡ 1) × ((i : ℕ) → i < trailing_zeros w64 d → bit_at d i ≡ 0) =
    bit_at-trailing_zeros w64 (bit_and a (bit_not w64 b)) (omega arith) (omega arith) in
    let i : ℕ = trailing_zeros w64 d in
    let z : min (bit_at a i) (bit_at (bit_not w64 b) i) ≡ 1 = sym (bit_at_and a (bit_not w64 b) i) ∙ t.1 in
    let k : bit_at (bit_not w64 b) i ≡ 1 - bit_at b i = bit_at_not w64 b i m t.0 in
    let s : bit_at a i < 2 = bit_at-lt a i in
    record { bit = i; within = t.0; there = omega arith; missing = omega arith }

-- a and b share no bit: what `a & b == 0` says, and its contrary
pub bits_apart : (a b i : ℕ) → bit_and a b ≡ 0 → bit_at a i ≡ 1 → bit_at b i ≡ 0
bits_apart a b i e h =
    let z : min (bit_at a i) (bit_at b i) ≡ 0 = sym (bit_at_and a b i) ∙ ap (λ x. bit_at x i) e ∙ bit_at-zero i in
    omega arith

pub record BitShared (a b : ℕ) : Type 0 where
  pub bit : ℕ
  pub within : bit < 64
  pub here : bit_at a bit ≡ 1
  pub there : bit_at b bit ≡ 1

pub bit_shared : (a b : ℕ) → a < 2 ^ 64 → bit_and a b ≢ 0 → BitShared a b
bit_shared a b l n =
    let d : ℕ = bit_and a b in
    let small : bit_and a b ≤ a = and_le_l a b in
    let t : (trailing_zeros w64 d < 64) × (bit_at d (trailing_zeros w64 d) ≡ 1) × ((i : ℕ) → i < trailing_zeros w64 d → bit_at d i ≡ 0) =
    bit_at-trailing_zeros w64 (bit_and a b) (omega arith) (omega arith) in
    let i : ℕ = trailing_zeros w64 d in
    let z : min (bit_at a i) (bit_at b i) ≡ 1 = sym (bit_at_and a b i) ∙ t.1 in
    let s : bit_at a i < 2 = bit_at-lt a i in
    let r : bit_at b i < 2 = bit_at-lt b i in
    record { bit = i; within = t.0; here = omega arith; there = omega arith }

-- ---- lists of words

-- the good at bit i of word k
pub word_bit_at : (ws : List ℕ) (k i : ℕ) → i < 64 → word_bit ws (64 * k + i) ≡ bit_at (get_or ws k 0) i
word_bit_at ws k i l = search rules

pub words_inside : (n : ℕ) (us vs : List ℕ) → ((k : ℕ) → get_or vs k 0 < 2 ^ 64) → ((k : ℕ) → k < n → bit_and (get_or us k 0) (bit_not w64 (get_or vs k 0)) ≡ 0)
    → is_inside (word_goods (64 * n) us) (word_goods (64 * n) vs) ≡ true
words_inside n us vs f h = search (rules, inside_from, word_goods_parts, word_goods_has, bits_inside)

pub words_outside : (n : ℕ) (us vs : List ℕ) (k : ℕ) → ((j : ℕ) → get_or us j 0 < 2 ^ 64) → ((j : ℕ) → get_or vs j 0 < 2 ^ 64) → k < n
    → bit_and (get_or us k 0) (bit_not w64 (get_or vs k 0)) ≢ 0 → is_inside (word_goods (64 * n) us) (word_goods (64 * n) vs) ≡ false
words_outside n us vs k e f l h =
    let o : BitOutside (get_or us k 0) (get_or vs k 0) = bit_outside (get_or us k 0) (get_or vs k 0) (e k) (f k) h in
    let w : o.bit < 64 = o.within in
    false_from_ne_true (is_inside (word_goods (64 * n) us) (word_goods (64 * n) vs)) (λ i.
    both_ways (has_good (word_goods (64 * n) vs) (64 * k + o.bit)) (word_goods_lacks (64 * n) vs (64 * k + o.bit) (word_bit_at vs k o.bit w ∙ o.missing))
    (inside_at (word_goods (64 * n) us) (word_goods (64 * n) vs) (64 * k + o.bit) i
    (word_goods_has (64 * n) us (64 * k + o.bit) (omega arith) (word_bit_at us k o.bit w ∙ o.there))))

pub words_apart : (n : ℕ) (us vs : List ℕ) → ((k : ℕ) → k < n → bit_and (get_or us k 0) (get_or vs k 0) ≡ 0)
    → are_apart (word_goods (64 * n) us) (word_goods (64 * n) vs) ≡ true
words_apart n us vs h = search (rules, apart_from, word_goods_parts, word_goods_lacks, bits_apart)

pub words_sharing : (n : ℕ) (us vs : List ℕ) (k : ℕ) → ((j : ℕ) → get_or us j 0 < 2 ^ 64) → k < n → bit_and (get_or us k 0) (get_or vs k 0) ≢ 0
    → are_apart (word_goods (64 * n) us) (word_goods (64 * n) vs) ≡ false
words_sharing n us vs k e l h =
    let o : BitShared (get_or us k 0) (get_or vs k 0) = bit_shared (get_or us k 0) (get_or vs k 0) (e k) h in
    let w : o.bit < 64 = o.within in
    false_from_ne_true (are_apart (word_goods (64 * n) us) (word_goods (64 * n) vs)) (λ i.
    both_ways (has_good (word_goods (64 * n) vs) (64 * k + o.bit)) (apart_at (word_goods (64 * n) us) (word_goods (64 * n) vs) (64 * k + o.bit) i
    (word_goods_has (64 * n) us (64 * k + o.bit) (omega arith) (word_bit_at us k o.bit w ∙ o.here)))
    (word_goods_has (64 * n) vs (64 * k + o.bit) (omega arith) (word_bit_at vs k o.bit w ∙ o.there)))

-- words less the bits of others hold the goods without the others' goods
pub words_without : (cap : ℕ) (us vs ws : List ℕ) → ((k : ℕ) → get_or vs k 0 < 2 ^ 64)
    → ((k : ℕ) → 64 * k < cap → get_or ws k 0 ≡ bit_and (get_or us k 0) (bit_not w64 (get_or vs k 0)))
    → word_goods cap ws ≡ without (word_goods cap us) (word_goods cap vs)
words_without cap us vs ws f h = same_from_has (word_goods cap ws) (without (word_goods cap us) (word_goods cap vs)) (word_goods_bundle cap ws).0
    (IsRising-without (word_goods cap us) (word_goods cap vs) (word_goods_bundle cap us).0)
    (search (rules, word_goods_parts, parts, has_without_from, word_goods_has, word_goods_lacks))
    (search (rules, has_without_parts, word_goods_parts, word_goods_has, left, both_ways))
  where
    is : (g : ℕ) → g < cap → word_bit ws g ≡ min (word_bit us g) (1 - word_bit vs g)
    is g l = ap (λ w. bit_at w (g % 64)) (h (g / 64) (omega arith)) ∙ bit_at_and (get_or us (g / 64) 0) (bit_not w64 (get_or vs (g / 64) 0)) (g % 64)
        ∙ ap (λ x. min (word_bit us g) x) (bit_at_not w64 (get_or vs (g / 64) 0) (g % 64) (f (g / 64)) (omega arith))

    parts : (g : ℕ) → g < cap → word_bit ws g ≡ 1 → (word_bit us g ≡ 1) × (word_bit vs g ≡ 0)
    parts g l e =
        let m : min (word_bit us g) (1 - word_bit vs g) ≡ 1 = sym (is g l) ∙ e in
        let s : word_bit us g < 2 = bit_at-lt (get_or us (g / 64) 0) (g % 64) in
        (omega arith, omega arith)

    left : (g : ℕ) → g < cap → word_bit us g ≡ 1 → word_bit vs g ≢ 1 → word_bit ws g ≡ 1
    left g l e n =
        let s : word_bit vs g < 2 = bit_at-lt (get_or vs (g / 64) 0) (g % 64) in
        is g l ∙ (let m : min (word_bit us g) (1 - word_bit vs g) ≡ 1 = omega arith in m)

pub word_cap_fits : (n : ℕ) → word_cap n ≤ 65536
word_cap_fits n = omega arith
