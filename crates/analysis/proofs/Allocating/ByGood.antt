-- The numbers of the bids that have a good, bid by bid. The goods of a bid rise, with its dummy good behind them, so its number is put once
-- in the list of each.
use Rattle.analysis.proofs.Common.{rules, ◌≡◌, ℕ, ◌+◌, ◌<◌, Bool, ⊎_elim, List, [], ◌∷◌, ◌++◌, length, set, get_or, refl, sym, ap, ap₂, ◌∙◌, subst, Option, All}
use Rattle.analysis.proofs.Common.{Some, Global, append-nil, get_or-set_same, get_or-set_other, Vec, filter, range_with_len, cases_eq, eq-eqb, ne_eqb, or_left}
use Rattle.analysis.proofs.Common.{get_or-append_seam, get_or_append_left, get_or-map, length-append, length-map, length-set, map-set, filter-append, AreAbove}
use Rattle.analysis.proofs.Common.{AreBelow, IsRising, has_good, IsBid, PlainBid, PlainFile, dummy_good, goods_of, filter-kept, filter-lost, bid_at, AreByGood}
use Rattle.analysis.proofs.Common.{lists_of, with_bid, bids_with, has_not_head, list_at, with_number}
use Rattle.analysis.proofs.Allocating.RowTexts.{range_next}
use Rattle.goods_set.specs.Lemmas.Members.{AreBelow-higher}

-- ---- the goods of a bid

above_push : (x : ℕ) (gs : List ℕ) (y : ℕ) → AreAbove x gs → x < y → AreAbove x (gs ++ y ∷ [])
above_push x [] y a l = (l, tt)
above_push x (g ∷ gs) y a l = (a.0, above_push x gs y a.1 l)

rising_push : (gs : List ℕ) (y : ℕ) → IsRising gs → AreBelow y gs → IsRising (gs ++ y ∷ [])
rising_push [] y r b = (tt, tt)
rising_push (g ∷ gs) y r b = (above_push g gs y r.0 b.0, rising_push gs y r.1 b.1)

below_push : (m : ℕ) (gs : List ℕ) (y : ℕ) → AreBelow m gs → y < m → AreBelow m (gs ++ y ∷ [])
below_push m [] y b l = (l, tt)
below_push m (g ∷ gs) y b l = (b.0, below_push m gs y b.1 l)

module _ (G D : ℕ) (b : PlainBid) (is : IsBid G D b) where
  rising : IsRising b.goods
  rising = is.rising

  below : AreBelow G b.goods
  below = is.below

  pub goods_rising : IsRising (goods_of G b)
  goods_rising = search (rules, append-nil, rising, rising_push, AreBelow-higher, below)

  pub goods_below : AreBelow (G + D) (goods_of G b)
  goods_below = search (rules, AreBelow-higher, below, append-nil, below_push)

-- ---- one more number

pub length-with_bid : (n : ℕ) (lists : List (List ℕ)) (goods : List ℕ) → length (with_bid n lists goods) ≡ length lists
length-with_bid n lists [] = refl
length-with_bid n lists (g ∷ gs) = length-with_bid n (with_number n lists g) gs ∙ length-set lists g (list_at lists g ++ n ∷ [])

pub length-lists_of : (lists : List (Vec ℕ Global)) → length (lists_of lists) ≡ length lists
length-lists_of lists = length-map lists (λ (v : Vec ℕ Global). v.items)

pub number_put : (n : ℕ) (lists : List (Vec ℕ Global)) (old new : Vec ℕ Global) (good : ℕ) → good < length lists → old ≡ get_or lists good old
    → new.items ≡ old.items ++ n ∷ [] → lists_of (set lists good new) ≡ with_number n (lists_of lists) good
number_put n lists old new good l is more = search (rules, get_or-map, map-set)

module _ (n good : ℕ) where
  -- the number, if the good is one of these
  abbrev put : List ℕ → List ℕ
  put goods = filter (λ i. has_good goods good) (n ∷ [])

  at_bid : (goods : List ℕ) (lists : List (List ℕ)) → IsRising goods → AreBelow (length lists) goods
      → list_at (with_bid n lists goods) good ≡ list_at lists good ++ put goods
  at_bid [] lists r b = sym (append-nil (list_at lists good))
  at_bid (x ∷ xs) lists r b = let next : List (List ℕ) = with_number n lists x in
      let long = length-set lists x (list_at lists x ++ n ∷ []) in
      at_bid xs next r.1 (subst (λ m. AreBelow m xs) (sym long) b.1) ∙ ⊎_elim
      (search (rules, get_or-set_same, filter-lost, has_not_head, append-nil, filter-kept, or_left, eq-eqb))
      (search (rules, get_or-set_other, ne_eqb))
      (cases_eq good x)

pub bid_put : (f : PlainFile) (n : ℕ) (b : PlainBid) (lists changed : List (List ℕ)) → IsBid f.goods f.dummy b → b ≡ bid_at f n
    → changed ≡ with_bid n lists (goods_of f.goods b) → AreByGood f n lists → AreByGood f (n + 1) changed
bid_put f n b lists changed is here c h = record {
  long = search (rules, length-with_bid);
  each = λ good l.
      let has : PlainBid → Bool = λ a. has_good (goods_of f.goods a) good in
      let test : ℕ → Bool = λ i. has (bid_at f i) in
      ap (λ (zs : List (List ℕ)). list_at zs good) c ∙ at_bid n good (goods_of f.goods b) lists (goods_rising f.goods f.dummy b is)
      (subst (λ m. AreBelow m (goods_of f.goods b)) (sym h.long) (goods_below f.goods f.dummy b is))
      ∙ ap₂ (λ (ys zs : List ℕ). ys ++ zs) (h.each good l) (ap (λ (a : PlainBid). filter (λ (i : ℕ). has a) (n ∷ [])) here)
      ∙ sym (filter-append test (range_with_len 0 n) (n ∷ [])) ∙ ap (filter test) (sym (range_next n));
}

pub good_within : (G m i : ℕ) (b : PlainBid) → All (λ g. g < m) (goods_of G b) → i < length b.goods → get_or b.goods i 0 < m
good_within G m i b h l = search (rules, get_or_append_left, length-append)

pub dummy_within : (G m d : ℕ) (b : PlainBid) → All (λ g. g < m) (goods_of G b) → b.dummy ≡ Some d → G + d < m
dummy_within G m d b h s = let all : All (λ g. g < m) (b.goods ++ (G + d) ∷ []) = subst (λ (o : Option ℕ). All (λ g. g < m) (b.goods ++ dummy_good G o)) s h in
    let at = get_or-append_seam b.goods (G + d) [] 0 in
    search (rules, length-append)

pub same_length : (n : ℕ) (lists now : List (Vec ℕ Global)) (goods : List ℕ) → lists_of now ≡ with_bid n (lists_of lists) goods → length now ≡ length lists
same_length n lists now goods h = search (rules, length-lists_of, length-with_bid)

-- the list of a good
pub bids_found : (f : PlainFile) (lists : List (Vec ℕ Global)) (good : ℕ) (v : Vec ℕ Global) → AreByGood f (length f.bids) (lists_of lists)
    → good < length lists → v ≡ get_or lists good v → v.items ≡ bids_with f good
bids_found f lists good v h l is = search (rules, length-lists_of, get_or-map)
