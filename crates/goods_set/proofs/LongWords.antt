-- Words that hold goods of any number: past the last word there is none, so what they hold is what their bits are, whatever the bound.
use Rattle.goods_set.proofs.Common.{rules, ◌≡◌, ℕ, ◌+◌, ◌*◌, ◌/◌, ◌%◌, ◌^◌, ◌<◌, ◌≤◌, min, List, length, get_or, take, ◌++◌, set, drop, replicate, sym, ap}
use Rattle.goods_set.proofs.Common.{ap₂, ◌∙◌, arith, w64, bit_at, bit_not, bit_and, bit_or, cases_lt, and_mask, bit_at-zero, length-set, length-append}
use Rattle.goods_set.proofs.Common.{length-drop, get_or-drop, get_or_past, get_or_append_left, get_or-append_right, append-nil, drop_all, take_all}
use Rattle.goods_set.proofs.Common.{get_or_default_zero, with_good, without, same_from_has, word_bit, word_goods, word_goods_rise, word_goods_has}
use Rattle.goods_set.proofs.Common.{word_goods_parts, word_goods_same, words_without, get_or-take}
use Rattle.goods_set.proofs.Bits.{zeros, with_bit}

-- a bit that is set is in a word that is there
bit_within : (ws : List ℕ) (g : ℕ) → word_bit ws g ≡ 1 → g < 64 * length ws
bit_within ws g e = search (rules, get_or_past, bit_at-zero, cases_lt)

-- a bound past the words leaves their goods as they are
word_goods_wide : (cap : ℕ) (ws : List ℕ) → 64 * length ws ≤ cap → word_goods cap ws ≡ word_goods (64 * length ws) ws
word_goods_wide cap ws l = search (rules, same_from_has, word_goods_rise, word_goods_parts, word_goods_has, bit_within)

-- lists of the same words, but for words of no goods at the end of one
words_alike : (ws vs : List ℕ) → ((k : ℕ) → get_or ws k 0 ≡ get_or vs k 0) → word_goods (64 * length ws) ws ≡ word_goods (64 * length vs) vs
words_alike ws vs h =
    let cap : ℕ = 64 * length ws + 64 * length vs in
    sym (word_goods_wide cap ws (omega arith)) ∙ word_goods_same cap ws vs (λ g l. ap (λ w. bit_at w (g % 64)) (h (g / 64)))
    ∙ word_goods_wide cap vs (omega arith)

-- ---- words of no goods appended

grown_word : (ws : List ℕ) (n m k : ℕ) → length ws ≤ n → get_or (take n ws ++ replicate m 0) k 0 ≡ get_or ws k 0
grown_word ws n m k l = search (rules, take_all, get_or_append_left, get_or-append_right, zeros, get_or_past, cases_lt)

pub words_grown : (ws vs : List ℕ) (n m : ℕ) → vs ≡ take n ws ++ replicate m 0 → length ws ≤ n → word_goods (64 * length vs) vs ≡ word_goods (64 * length ws) ws
words_grown ws vs n m e l = words_alike vs ws (λ k. ap (λ xs. get_or xs k 0) e ∙ grown_word ws n m k l)

-- ---- the goods of one list taken out of another's

-- words less the bits of others, of which there may be fewer or more
long_without : (us vs ws : List ℕ) → ((k : ℕ) → get_or vs k 0 < 2 ^ 64) → length ws ≡ length us
    → ((k : ℕ) → get_or ws k 0 ≡ bit_and (get_or us k 0) (bit_not w64 (get_or vs k 0)))
    → word_goods (64 * length ws) ws ≡ without (word_goods (64 * length us) us) (word_goods (64 * length vs) vs)
long_without us vs ws f e h =
    let cap : ℕ = 64 * length us + 64 * length vs in
    sym (word_goods_wide cap ws (omega arith)) ∙ words_without cap us vs ws f (λ k l. h k)
    ∙ ap₂ without (word_goods_wide cap us (omega arith)) (word_goods_wide cap vs (omega arith))

-- less no bits a word is as it is
kept_word : (w v : ℕ) → w < 2 ^ 64 → v ≡ 0 → w ≡ bit_and w (bit_not w64 v)
kept_word w v l z = let e : w % 2 ^ 64 ≡ w = omega arith in sym (ap (λ x. bit_and w (bit_not w64 x)) z ∙ and_mask w 64 ∙ e)

-- the words that both lists have, less the bits of the others; behind them those that were there
less_word : (us vs rs : List ℕ) (n : ℕ) → n ≡ min (length us) (length vs) → length rs ≡ n → ((k : ℕ) → get_or (rs ++ drop n us) k 0 < 2 ^ 64)
    → ((k : ℕ) → k < n → get_or rs k 0 ≡ bit_and (get_or (take n us) k 0) (bit_not w64 (get_or (take n vs) k 0)))
    → (k : ℕ) → get_or (rs ++ drop n us) k 0 ≡ bit_and (get_or us k 0) (bit_not w64 (get_or vs k 0))
less_word us vs rs n e m f h k = search (rules, cases_lt, get_or_append_left, get_or-take, get_or-append_right, get_or-drop, kept_word, get_or_past)

pub shared_removed : (us vs rs : List ℕ) (n : ℕ) → n ≡ min (length us) (length vs) → length rs ≡ n → ((k : ℕ) → get_or (rs ++ drop n us) k 0 < 2 ^ 64)
    → ((k : ℕ) → get_or vs k 0 < 2 ^ 64) → ((k : ℕ) → k < n → get_or rs k 0 ≡ bit_and (get_or (take n us) k 0) (bit_not w64 (get_or (take n vs) k 0)))
    → word_goods (64 * length (rs ++ drop n us)) (rs ++ drop n us) ≡ without (word_goods (64 * length us) us) (word_goods (64 * length vs) vs)
shared_removed us vs rs n e m f g h = search (rules, long_without, length-append, length-drop, less_word)

-- ---- a bit set

pub with_long_bit : (ws : List ℕ) (g w d : ℕ) → w ≡ get_or ws (g / 64) d → g / 64 < length ws
    → word_goods (64 * length (set ws (g / 64) (bit_or w (1 * 2 ^ (g % 64) % 2 ^ 64)))) (set ws (g / 64) (bit_or w (1 * 2 ^ (g % 64) % 2 ^ 64)))
    ≡ with_good g (word_goods (64 * length ws) ws)
with_long_bit ws g w d e l = search (rules, length-set, get_or_default_zero, with_bit)

-- what is in a vector whose items were written through a slice
pub written_back : (ws vs : List ℕ) (n : ℕ) → length vs ≡ length ws → n ≡ length ws → take n (vs ++ drop (length vs) ws) ≡ vs
written_back ws vs n e f = ap (λ xs. take n (vs ++ xs)) (drop_all (length vs) ws (omega arith)) ∙ ap (take n) (append-nil vs) ∙ take_all n vs (omega arith)
