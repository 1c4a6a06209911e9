-- The layout of a file spells it: its lines are the bids by number, so each number comes once, and the goods of a bid rise.
use Rattle.cats_text.proofs.Common.{rules, ◌≡◌, ℕ, suc, ◌+◌, ◌^◌, ◌<◌, true, List, [], ◌∷◌, ◌++◌, length, map, decimal, Option, Some, None, refl, sym, ap}
use Rattle.cats_text.proofs.Common.{subst, ◌∙◌, arith, append_assoc, length-append, AllByRecursion, slice_get, is_number, number_of, AreAbove, AreBelow}
use Rattle.cats_text.proofs.Common.{IsRising, has_good, has_below, SpellsBid, Spells, AreDistinct, line_number, PlainBid, PlainFile, IsPlainFile, dummy_good}
use Rattle.cats_text.proofs.Common.{goods_of, price_text, layout, common_steps, append-nil}
use Rattle.cats_text.proofs.Spelling.Distinct.{distinct_from_rising}
use Rattle.cats_text.proofs.Spelling.Rising.{IsRising-push}
use Rattle.cats_text.proofs.Writing.Numerals.{decimal_spells}
use Rattle.cats_text.proofs.Writing.Prices.{price_text_spells}
use Rattle.cats_text.proofs.Writing.Lines.{AreShort, AreBids, bid_words, bids_words, bid_goods_short, behind_first, layout_words}

-- ---- the goods of a bid rise

-- the dummy good is behind the real goods
goods_rising : (goods : ℕ) (gs : List ℕ) (d : Option ℕ) → IsRising gs → AreBelow goods gs → IsRising (gs ++ dummy_good goods d)
goods_rising goods gs None rising below = subst IsRising (sym (append-nil gs)) rising
goods_rising goods gs (Some d) rising below = search (rules, IsRising-push, has_below)

-- ---- the goods of a line

values : (gs : List ℕ) → AreShort gs → map number_of (map decimal gs) ≡ gs
values [] short = refl
values (g ∷ gs) short = ap (λ v. v ∷ map number_of (map decimal gs)) (decimal_spells g short.0).value ∙ ap (λ vs. g ∷ vs) (values gs short.1)

numbers : (gs : List ℕ) → AreShort gs → AllByRecursion (λ w. is_number w ≡ true) (map decimal gs)
numbers [] short = tt
numbers (g ∷ gs) short = ((decimal_spells g short.0).number, numbers gs short.1)

-- ---- a line

standing : (prefix : List PlainBid) (b : PlainBid) (bs : List PlainBid) → slice_get (prefix ++ b ∷ bs) (length prefix) ≡ Some b
standing [] b bs = refl
standing (c ∷ cs) b bs = standing cs b bs

spells_bid : (f : PlainFile) (prefix : List PlainBid) (b : PlainBid) (bs : List PlainBid) → f.bids ≡ prefix ++ b ∷ bs
    → AreBids f.goods f.dummy (length prefix) (b ∷ bs) → SpellsBid f (bid_words f.goods (length prefix) b)
spells_bid f prefix b bs split bids =
    let bid = bids.each.0 in
    let n : ℕ = length prefix in
    let number = decimal_spells n (omega (arith, bids.count)) in
    let short = bid_goods_short f.goods f.dummy b (omega (arith, bids.goods_fit)) bid in
    let same = values (goods_of f.goods b) short in
    record {
      number = decimal n;
      price = price_text b.price;
      goods = map decimal (goods_of f.goods b);
      bid = b;
      words_are = refl;
      number_spelled = number.number;
      stands = ap (λ k. slice_get f.bids k) number.value ∙ ap (λ cs. slice_get cs n) split ∙ standing prefix b bs;
      price_spelled = price_text_spells b.price (let greatest = bid.price in omega arith);
      goods_spelled = numbers (goods_of f.goods b) short;
      distinct = subst AreDistinct (sym same) (distinct_from_rising (goods_of f.goods b) (goods_rising f.goods b.goods b.dummy bid.rising bid.below));
      same_goods = λ g. ap (λ gs. has_good gs g) same;
    }

spells_bids : (f : PlainFile) (prefix bs : List PlainBid) → f.bids ≡ prefix ++ bs → AreBids f.goods f.dummy (length prefix) bs
    → AllByRecursion (SpellsBid f) (bids_words f.goods (length prefix) bs)
spells_bids f prefix [] split bids = tt
spells_bids f prefix (b ∷ bs) split bids =
    let rest = spells_bids f (prefix ++ b ∷ []) bs (split ∙ sym (append_assoc prefix (b ∷ []) bs)) in
    grind (arith, common_steps, append_assoc, behind_first, bids_words, length-append, spells_bid, rest)

-- ---- the lines

lines_above : (goods m n : ℕ) (bs : List PlainBid) → m < n → n + length bs < 2 ^ 32 → AreAbove m (map line_number (bids_words goods n bs))
lines_above goods m n [] above fits = tt
lines_above goods m n (b ∷ bs) above fits =
    let value : number_of (decimal n) ≡ n = (decimal_spells n (omega arith)).value in
    (omega (arith, value), lines_above goods m (suc n) bs (omega arith) (omega arith))

lines_rising : (goods n : ℕ) (bs : List PlainBid) → n + length bs < 2 ^ 32 → IsRising (map line_number (bids_words goods n bs))
lines_rising goods n [] fits = tt
lines_rising goods n (b ∷ bs) fits =
    let value : number_of (decimal n) ≡ n = (decimal_spells n (omega arith)).value in
    (lines_above goods (number_of (decimal n)) (suc n) bs (omega (arith, value)) (omega arith), lines_rising goods (suc n) bs (omega arith))

lines_count : (goods n : ℕ) (bs : List PlainBid) → length (bids_words goods n bs) ≡ length bs
lines_count goods n [] = refl
lines_count goods n (b ∷ bs) = ap suc (lines_count goods (suc n) bs)

pub layout_spells : (f : PlainFile) → IsPlainFile f → Spells (layout f) f
layout_spells f facts =
    let goods_fit = facts.goods in
    let dummy_fit = facts.dummy in
    let count_fit = facts.count in
    let bids : AreBids f.goods f.dummy 0 f.bids = record { goods_fit = omega arith; count = omega arith; each = facts.each } in
    record {
      goods = decimal f.goods;
      bids = decimal (length f.bids);
      dummy = decimal f.dummy;
      bid_lines = bids_words f.goods 0 f.bids;
      lines_are = layout_words f bids;
      goods_spelled = decimal_spells f.goods (omega arith);
      bids_spelled = decimal_spells (length f.bids) (omega arith);
      dummy_spelled = decimal_spells f.dummy (omega arith);
      count = lines_count f.goods 0 f.bids;
      distinct = distinct_from_rising (map line_number (bids_words f.goods 0 f.bids)) (lines_rising f.goods 0 f.bids (omega arith));
      each = spells_bids f [] f.bids refl bids;
      facts = facts;
    }
