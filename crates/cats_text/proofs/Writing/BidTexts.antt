-- The texts of bids one after another.
use Rattle.cats_text.proofs.Common.{◌≡◌, ℕ, zero, suc, ◌+◌, ◌≤◌, List, [], ◌∷◌, ◌++◌, Some, length, subst, drop, ap, add-one, append_assoc, drop_all}
use Rattle.cats_text.proofs.Common.{AllByRecursion, slice_get, PlainBid, bid_text, bids_text, arith, common_steps, append-nil}

-- all are written
pub bids_text_all : (goods : ℕ) (bids : List PlainBid) (i : ℕ) (out text : List ℕ) → length bids ≤ i → out ++ bids_text goods i (drop i bids) ≡ text
    → out ≡ text
bids_text_all goods bids i out text all written = grind (arith, common_steps, append-nil, drop_all)

some_same : {X : Type 0} (x y : X) → Some x ≡ Some y → x ≡ y
some_same x y e = cc

-- the bids from one place on begin with the bid there
drop_at : (bids : List PlainBid) (i : ℕ) (bid : PlainBid) → slice_get bids i ≡ Some bid → drop i bids ≡ bid ∷ drop (suc i) bids
drop_at [] i bid is = cc
drop_at (b ∷ bs) zero bid is = ap (λ (x : PlainBid). x ∷ bs) (some_same b bid is)
drop_at (b ∷ bs) (suc i) bid is = drop_at bs i bid is

-- what holds of each bid holds of this
pub bid_at : (P : PlainBid → Type 0) (bids : List PlainBid) (i : ℕ) (bid : PlainBid) → AllByRecursion P bids → slice_get bids i ≡ Some bid → P bid
bid_at P [] i bid all is = cc
bid_at P (b ∷ bs) zero bid all is = subst P (some_same b bid is) all.0
bid_at P (b ∷ bs) (suc i) bid all is = bid_at P bs i bid all.1 is

-- one more is written
pub bids_text_on : (goods : ℕ) (bids : List PlainBid) (i : ℕ) (bid : PlainBid) (out new text : List ℕ) → slice_get bids i ≡ Some bid
    → out ++ bids_text goods i (drop i bids) ≡ text → new ≡ out ++ bid_text goods i bid → new ++ bids_text goods (i + 1) (drop (i + 1) bids) ≡ text
bids_text_on goods bids i bid out new text is before more = grind (arith, common_steps, add-one, append_assoc, drop_at)
