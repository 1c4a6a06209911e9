-- Bids whose goods are in one list: those of one more bid are put behind the others.
use Rattle.std.proofs.Common.{◌≡◌, ℕ, ◌+◌, ◌-◌, ◌≤◌, List, [], ◌∷◌, ◌++◌, length, map, take, drop, Some, refl, ap, ap₂, ◌∙◌, arith, length-append, length-drop}
use Rattle.std.proofs.lemmas.List.{drop_all, take_all, take-append-le, take_more, drop-append-le, map-append}
use Rattle.std.proofs.lemmas.Option.{get_or_from_slice_get, slice_get_within}
use Rattle.std.specs.List.{slice_get}
use Rattle.std.specs.Prelude.{OnErr, Result, Ok, Err}
use Rattle.bid_file.specs.declared.packed.BidSpan.{BidSpan}
use Rattle.bid_file.specs.Files.{PlainBid}
use Rattle.bid_file.specs.Internal.Packed.{IsHeld, AreHeld}
use Rattle.bid_file.specs.Views.{spanned}

-- the bid of a span that has these goods
abbrev bid_with : BidSpan → List ℕ → PlainBid
bid_with o goods = record { price = o.price; goods = goods; dummy = o.dummy }

offered_more : (goods more : List ℕ) (o : BidSpan) → IsHeld (length goods) o → spanned (goods ++ more) o ≡ spanned goods o
offered_more goods more o held =
    let order : o.start ≤ o.end = held.order in
    let within : o.end ≤ length goods = held.within in
    ap (λ (gs : List ℕ). bid_with o (take (o.end - o.start) gs)) (drop-append-le o.start goods more (omega arith))
    ∙ ap (bid_with o) (take-append-le (o.end - o.start) (drop o.start goods) more (omega (arith, length-drop o.start goods)))

all_offered_more : (goods more : List ℕ) (spans : List BidSpan) → AreHeld (length goods) spans → map (spanned (goods ++ more)) spans ≡ map (spanned goods) spans
all_offered_more goods more [] held = refl
all_offered_more goods more (o ∷ spans) held =
    ap₂ (λ (b : PlainBid) (bs : List PlainBid). b ∷ bs) (offered_more goods more o held.0) (all_offered_more goods more spans held.1)

-- the goods of a span that were put behind the others
offered_last : (goods more : List ℕ) (o : BidSpan) → o.start ≡ length goods → o.end ≡ length (goods ++ more) → spanned (goods ++ more) o ≡ bid_with o more
offered_last goods more o start end =
    let long : length (goods ++ more) ≡ length goods + length more = length-append goods more in
    ap (λ (gs : List ℕ). bid_with o (take (o.end - o.start) gs))
    (drop-append-le o.start goods more (omega arith) ∙ ap (λ (gs : List ℕ). gs ++ more) (drop_all o.start goods (omega arith)))
    ∙ ap (bid_with o) (take_all (o.end - o.start) more (omega arith))

-- one more bid
pub spans_push : (goods more all : List ℕ) (spans next : List BidSpan) (o : BidSpan) → AreHeld (length goods) spans → all ≡ goods ++ more
    → o.start ≡ length goods → o.end ≡ length all → next ≡ spans ++ o ∷ [] → map (spanned all) next ≡ map (spanned goods) spans ++ bid_with o more ∷ []
spans_push goods more all spans next o held is start end put =
    ap₂ (λ (gs : List ℕ) (os : List BidSpan). map (spanned gs) os) is put ∙ map-append (spanned (goods ++ more)) spans (o ∷ [])
    ∙ ap₂ (λ (bs : List PlainBid) (b : PlainBid). bs ++ b ∷ []) (all_offered_more goods more spans held)
    (offered_last goods more o start (end ∙ ap length is))

-- goods that belong to no bid
pub spans_kept : (goods more all : List ℕ) (spans next : List BidSpan) → AreHeld (length goods) spans → all ≡ goods ++ more → next ≡ spans
    → map (spanned all) next ≡ map (spanned goods) spans
spans_kept goods more all spans next held is same =
    ap₂ (λ (gs : List ℕ) (os : List BidSpan). map (spanned gs) os) is same ∙ all_offered_more goods more spans held

-- each span's goods are in the longer list
pub held_push : (n m : ℕ) (spans : List BidSpan) (o : BidSpan) → AreHeld n spans → n ≤ m → IsHeld m o → AreHeld m (spans ++ o ∷ [])
held_push n m [] o held le new = (new, tt)
held_push n m (p ∷ spans) o held le new = (record { order = held.0.order; within = omega (arith, held.0.within, le) }, held_push n m spans o held.1 le new)

pub on_err : {T E P : Type 0} (r : Result T E) → P → OnErr r P
on_err (Ok x) p = tt
on_err (Err e) p = p

-- the first bids, with one more
pub take_bid : (bids : List PlainBid) (i : ℕ) (bid : PlainBid) → slice_get bids i ≡ Some bid → take (i + 1) bids ≡ take i bids ++ bid ∷ []
take_bid bids i bid e =
    take_more bids i bid (slice_get_within bids i bid e) ∙ ap (λ (b : PlainBid). take i bids ++ b ∷ []) (get_or_from_slice_get bids i bid bid e)
