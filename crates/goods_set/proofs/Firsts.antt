-- Which of two bundles of one size comes first: the one with the least good that they do not share, which is the lowest bit that
-- differs in the first word that differs.
use Rattle.goods_set.proofs.Common.{rules, ◌≡◌, ℕ, ◌+◌, ◌-◌, ◌*◌, ◌/◌, ◌%◌, ◌^◌, ◌<◌, ◌≤◌, ◌≢◌, true, false, eqb, ◌⊎◌, inl, inr, ⊎_elim, List, [], ◌∷◌}
use Rattle.goods_set.proofs.Common.{length, get_or, refl, sym, ap, ◌∙◌, subst, arith, w64, Less, Equal, Greater, nat_cmp, ordering_then, ordering_reverse}
use Rattle.goods_set.proofs.Common.{slice_cmp, bit_at, trailing_zeros, bit_and, bit_xor, both_ways, cases_lt, cases_eq, cases_order, eqb-false, ne_eqb}
use Rattle.goods_set.proofs.Common.{or_parts, nat_list_cmp_total, tied_itself, bit_at-lt, bit_at_xor, bit_at-trailing_zeros, shr_and_one, AreAbove, IsRising}
use Rattle.goods_set.proofs.Common.{has_good, has_head, has_cases, has_above, has_not_head, nat_cmp-lt, nat_cmp-refl, word_bit, word_goods, word_bit_at}
use Rattle.goods_set.proofs.Common.{word_goods_bundle, word_goods_has, word_goods_lacks, word_goods_same}
use Rattle.goods_set.proofs.Bits.{has-word_goods}

-- ---- over lists

-- g is the least good that one of the lists has and the other lacks, and xs has it
pub record IsFirstUnshared (xs ys : List ℕ) (g : ℕ) : Type 0 where
  pub here : has_good xs g ≡ true
  pub missing : has_good ys g ≡ false
  pub alike : (k : ℕ) → k < g → has_good xs k ≡ has_good ys k

heads_in_order : (x : ℕ) (xs : List ℕ) (y : ℕ) (ys : List ℕ) (g : ℕ) → AreAbove x xs → IsFirstUnshared (x ∷ xs) (y ∷ ys) g → x ≤ y
heads_in_order x xs y ys g a f = by (cases_lt y x)
  where
    least : (k : ℕ) → has_good (x ∷ xs) k ≡ true → x ≤ k
    least k h = ⊎_elim (λ (e : x ≡ k). omega arith) (λ (m : has_good xs k ≡ true). let l : x < k = has_above x xs k a m in omega arith) (has_cases x xs k h)

    by : (y < x) ⊎ (x ≤ y) → x ≤ y
    by (inr l) = l
    by (inl l) = let m : x ≤ g = least g f.here in least y (f.alike y (omega arith) ∙ has_head y ys)

tails : (x : ℕ) (xs : List ℕ) (y : ℕ) (ys : List ℕ) (g : ℕ) → x ≡ y → AreAbove x xs → AreAbove y ys → IsFirstUnshared (x ∷ xs) (y ∷ ys) g
    → IsFirstUnshared xs ys g
tails x xs y ys g e a b f = search (rules, or_parts, eqb-false, has_cases, has_not_head, cases_eq, ne_eqb)

pub less_from_first : (xs ys : List ℕ) (g : ℕ) → IsRising xs → IsRising ys → length xs ≡ length ys → IsFirstUnshared xs ys g → slice_cmp nat_cmp xs ys ≡ Less
less_from_first [] ys g r s l f = absurd (both_ways false refl f.here)
less_from_first (x ∷ xs) [] g r s l f = absurd (omega arith)
less_from_first (x ∷ xs) (y ∷ ys) g r s l f =
    ⊎_elim (λ (e : x ≡ y). subst (λ n. nat_cmp x n ≡ Equal → slice_cmp nat_cmp xs ys ≡ Less → slice_cmp nat_cmp (x ∷ xs) (n ∷ ys) ≡ Less) e
    (λ q h. ap (λ o. ordering_then o (slice_cmp nat_cmp xs ys)) q ∙ h) (subst (λ n. nat_cmp x n ≡ Equal) e (nat_cmp-refl x))
    (less_from_first xs ys g r.1 s.1 (omega arith) (tails x xs y ys g e r.0 s.0 f))) (search (rules, nat_cmp-lt, heads_in_order)) (cases_order x y)

pub greater_from_first : (xs ys : List ℕ) (g : ℕ) → IsRising xs → IsRising ys → length xs ≡ length ys → IsFirstUnshared ys xs g
    → slice_cmp nat_cmp xs ys ≡ Greater
greater_from_first xs ys g r s l f = nat_list_cmp_total.antisymm xs ys ∙ ap ordering_reverse (less_from_first ys xs g s r (sym l) f)

-- ---- over words

-- the first k words are the same
abbrev pub AreSameWords : List ℕ → List ℕ → ℕ → Type 0
AreSameWords us vs k = (j : ℕ) → j < k → get_or us j 0 ≡ get_or vs j 0

same_bits : (us vs : List ℕ) (k g : ℕ) → AreSameWords us vs k → g < 64 * k → word_bit us g ≡ word_bit vs g
same_bits us vs k g h l = ap (λ w. bit_at w (g % 64)) (h (g / 64) (omega arith))

-- all words are the same
pub equal_words : (n : ℕ) (us vs : List ℕ) → AreSameWords us vs n → slice_cmp nat_cmp (word_goods (64 * n) us) (word_goods (64 * n) vs) ≡ Equal
equal_words n us vs h = search (rules, word_goods_same, same_bits, tied_itself, nat_list_cmp_total)

-- what the lowest one of `x ^ y` says
pub record DiffersFirst (x y i : ℕ) : Type 0 where
  pub within : i < 64
  pub differs : bit_at x i + bit_at y i ≡ 1
  pub alike : (j : ℕ) → j < i → bit_at x j ≡ bit_at y j

pub differs_first : (x y : ℕ) → bit_xor x y < 2 ^ 64 → bit_xor x y ≢ 0 → DiffersFirst x y (trailing_zeros w64 (bit_xor x y))
differs_first x y l n =
    let t : (trailing_zeros w64 (bit_xor x y) < 64) × (bit_at (bit_xor x y) (trailing_zeros w64 (bit_xor x y)) ≡ 1)
    × ((i : ℕ) → i < trailing_zeros w64 (bit_xor x y) → bit_at (bit_xor x y) i ≡ 0) = bit_at-trailing_zeros w64 (bit_xor x y) (omega arith) l in
    search (rules, one, none)
  where
    one : (i : ℕ) → bit_at (bit_xor x y) i ≡ 1 → bit_at x i + bit_at y i ≡ 1
    one i e =
        let z : (bit_at x i + bit_at y i) % 2 ≡ 1 = sym (bit_at_xor x y i) ∙ e in
        let s : bit_at x i < 2 = bit_at-lt x i in
        let r : bit_at y i < 2 = bit_at-lt y i in
        omega arith

    none : (i : ℕ) → bit_at (bit_xor x y) i ≡ 0 → bit_at x i ≡ bit_at y i
    none i e =
        let z : (bit_at x i + bit_at y i) % 2 ≡ 0 = sym (bit_at_xor x y i) ∙ e in
        let s : bit_at x i < 2 = bit_at-lt x i in
        let r : bit_at y i < 2 = bit_at-lt y i in
        omega arith

first_of_words : (n : ℕ) (us vs : List ℕ) (k i : ℕ) → k < n → AreSameWords us vs k → DiffersFirst (get_or us k 0) (get_or vs k 0) i
    → bit_at (get_or us k 0) i ≡ 1 → IsFirstUnshared (word_goods (64 * n) us) (word_goods (64 * n) vs) (64 * k + i)
first_of_words n us vs k i l h d e =
    let w : i < 64 = d.within in
    let b : bit_at (get_or vs k 0) i ≡ 0 = omega (arith, d.differs) in
    record {
      here = word_goods_has (64 * n) us (64 * k + i) (omega arith) (word_bit_at us k i w ∙ e);
      missing = word_goods_lacks (64 * n) vs (64 * k + i) (word_bit_at vs k i w ∙ b);
      alike = λ g m. has-word_goods (64 * n) us g (omega arith) ∙ ap (λ x. eqb x 1) (before g m (cases_lt g (64 * k)))
          ∙ sym (has-word_goods (64 * n) vs g (omega arith));
    }
  where
    before : (g : ℕ) → g < 64 * k + i → (g < 64 * k) ⊎ (64 * k ≤ g) → word_bit us g ≡ word_bit vs g
    before g m (inl a) = same_bits us vs k g h a
    before g m (inr a) =
        let w : i < 64 = d.within in
        let q : 64 * k + (g - 64 * k) ≡ g = omega arith in
        subst (λ x. word_bit us x ≡ word_bit vs x) q (word_bit_at us k (g - 64 * k) (omega arith) ∙ d.alike (g - 64 * k) (omega arith)
        ∙ sym (word_bit_at vs k (g - 64 * k) (omega arith)))

differs_back : (x y i : ℕ) → DiffersFirst x y i → DiffersFirst y x i
differs_back x y i d = record { within = d.within; differs = omega (arith, d.differs); alike = λ j m. sym (d.alike j m) }

-- the word of us has the bit, or that of vs
pub less_by_words : (n : ℕ) (us vs : List ℕ) (k i : ℕ) → k < n → AreSameWords us vs k → DiffersFirst (get_or us k 0) (get_or vs k 0) i
    → length (word_goods (64 * n) us) ≡ length (word_goods (64 * n) vs) → bit_and (get_or us k 0 / 2 ^ i) 1 ≡ 1
    → slice_cmp nat_cmp (word_goods (64 * n) us) (word_goods (64 * n) vs) ≡ Less
less_by_words n us vs k i l h d e b =
    less_from_first (word_goods (64 * n) us) (word_goods (64 * n) vs) (64 * k + i) (word_goods_bundle (64 * n) us).0 (word_goods_bundle (64 * n) vs).0 e
    (first_of_words n us vs k i l h d (sym (shr_and_one (get_or us k 0) i) ∙ b))

pub greater_by_words : (n : ℕ) (us vs : List ℕ) (k i : ℕ) → k < n → AreSameWords us vs k → DiffersFirst (get_or us k 0) (get_or vs k 0) i
    → length (word_goods (64 * n) us) ≡ length (word_goods (64 * n) vs) → bit_and (get_or us k 0 / 2 ^ i) 1 ≢ 1
    → slice_cmp nat_cmp (word_goods (64 * n) us) (word_goods (64 * n) vs) ≡ Greater
greater_by_words n us vs k i l h d e b =
    let s : bit_at (get_or us k 0) i < 2 = bit_at-lt (get_or us k 0) i in
    let z : bit_at (get_or us k 0) i ≢ 1 = λ q. b (shr_and_one (get_or us k 0) i ∙ q) in
    greater_from_first (word_goods (64 * n) us) (word_goods (64 * n) vs) (64 * k + i) (word_goods_bundle (64 * n) us).0 (word_goods_bundle (64 * n) vs).0 e
    (first_of_words n vs us k i l (λ j m. sym (h j m)) (differs_back (get_or us k 0) (get_or vs k 0) i d) (omega (arith, d.differs)))
