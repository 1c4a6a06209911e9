-- Kept bids and those of the canonical file. A kept bid and the bid that it is there have one price and the same goods, and two kept bids
-- have one dummy good exactly if the two have one there, since the dummy goods of a canonical file are different ones. So bids that can win
-- together in one of the files can win together in the other.
use Rattle.analysis.proofs.Common.{rules, ◌≡◌, ◌≢◌, ℕ, ◌<◌, Bool, true, not, List, [], ◌∷◌, length, map, get_or, refl, sym, ap, ◌∙◌, subst, subst₂, Option, All}
use Rattle.analysis.proofs.Common.{Some, None, arith, nat_cmp, AllPairs, and_parts, and_from, both_ways, eqb-true, eq-eqb, false_from_ne_true, not-true, bid_at}
use Rattle.analysis.proofs.Common.{not_from_false, length-map, get_or-map, All-head, All-tail, All-map, All-weaker, sum_by-cons, get_or_from_slice_get, sort_by}
use Rattle.analysis.proofs.Common.{slice_get_within, PlainBid, PlainFile, IsDummyBelow, IsPlainFile, AllPairs-map, canonical_file, kept_dummies-differ, revenue}
use Rattle.analysis.proofs.Common.{points_of_kept_dummies, kept_bids, kept_dummies, named_bid, named_dummy, points_of_dummy, IsPlainFile-canonical, IsKeptAs}
use Rattle.analysis.proofs.Common.{IsAllocation, can_both_win, share_dummy}
use Rattle.analysis.proofs.Explaining.Deciding.{priced_within}
use Rattle.analysis.proofs.Explaining.KeptBids.{bid_here}
use Rattle.analysis.proofs.Allocating.Allocations.{CanWin, pairs_from_test, revenue_of_sorted, sorted_is_allocation}

-- ---- bids by other numbers, in a file where they are worth as much and can win together too

-- an allocation of another file, of the same revenue
pub record IsMoved (f g : PlainFile) (winners others : List ℕ) : Type 0 where
  pub allocation : IsAllocation g others
  pub revenue : revenue g others ≡ revenue f winners

module _ (f g : PlainFile) (facts : IsPlainFile g) (number : ℕ → ℕ) (P : ℕ → Type 0) (within : (i : ℕ) → P i → number i < length g.bids)
    (price : (i : ℕ) → P i → (bid_at g (number i)).price ≡ (bid_at f i).price)
    (win : (i j : ℕ) → P i → P j → CanWin f i j → CanWin g (number i) (number j)) where
  together : (xs : List ℕ) → All P xs → AllPairs (CanWin f) xs → AllPairs (CanWin g) (map number xs)
  together xs each h =
      AllPairs-map (λ i j. P i × P j × CanWin f i j) (CanWin g) number (λ i j p. win i j p.0 p.1 p.2) xs
      (λ i j d l m. (each i d (omega arith), each j d m, h i j d l m))

  prices : (xs : List ℕ) → All P xs → revenue g (map number xs) ≡ revenue f xs
  prices [] each = refl
  prices (x ∷ xs) each = let here = price x (All-head P x xs each) in let rest = prices xs (All-tail P x xs each) in search (rules, sum_by-cons)

  pub renumbered : (winners : List ℕ) → All P winners → IsAllocation f winners → IsMoved f g winners (sort_by nat_cmp (map number winners))
  renumbered winners each h = search (rules, sorted_is_allocation, All-map, All-weaker, together, pairs_from_test, revenue_of_sorted, prices)

-- ---- dummy goods

pub length-kept_dummies : (f : PlainFile) → (canonical_file f).dummy ≡ length (kept_dummies f)
length-kept_dummies f = ap length (sym (points_of_kept_dummies f)) ∙ length-map (kept_dummies f) (points_of_dummy f)

shared_named : (ds : List ℕ) (o p : Option ℕ) → share_dummy o p ≡ true → share_dummy (named_dummy ds o) (named_dummy ds p) ≡ true
shared_named ds None p t = absurd (cc)
shared_named ds (Some d) None t = absurd (cc)
shared_named ds (Some d) (Some e) t = eq-eqb (get_or ds e 0) (get_or ds d 0) (ap (λ (n : ℕ). get_or ds n 0) (eqb-true e d t))

same_index : (ds : List ℕ) → AllPairs (λ d e. d ≢ e) ds → (d e : ℕ) → d < length ds → e < length ds → get_or ds d 0 ≡ get_or ds e 0 → d ≡ e
same_index ds differ d e l m same = search (rules)

named_shared : (ds : List ℕ) → AllPairs (λ d e. d ≢ e) ds → (o p : Option ℕ) → IsDummyBelow (length ds) o → IsDummyBelow (length ds) p
    → share_dummy (named_dummy ds o) (named_dummy ds p) ≡ true → share_dummy o p ≡ true
named_shared ds differ None p l m t = absurd (cc)
named_shared ds differ (Some d) None l m t = absurd (cc)
named_shared ds differ (Some d) (Some e) l m t = eq-eqb e d (same_index ds differ e d m l (eqb-true (get_or ds e 0) (get_or ds d 0) t))

not_weaker : (a b : Bool) → (a ≡ true → b ≡ true) → not b ≡ true → not a ≡ true
not_weaker a b h t = not_from_false a (false_from_ne_true a (λ e. both_ways b (not-true b t) (h e)))

named_win : (ds : List ℕ) (a b : PlainBid) → can_both_win (named_bid ds a) (named_bid ds b) ≡ true → can_both_win a b ≡ true
named_win ds a b h = search (rules, and_parts, and_from, not_weaker, shared_named)

win_named : (ds : List ℕ) → AllPairs (λ d e. d ≢ e) ds → (a b : PlainBid) → IsDummyBelow (length ds) a.dummy → IsDummyBelow (length ds) b.dummy
    → can_both_win a b ≡ true → can_both_win (named_bid ds a) (named_bid ds b) ≡ true
win_named ds differ a b l m h = search (rules, and_parts, and_from, not_weaker, named_shared)

-- ---- a kept bid, and the bid that it is in the canonical file

pub record IsCounterpart (f : PlainFile) (i k : ℕ) : Type 0 where
  pub within : i < length f.bids
  pub index : k < length (canonical_file f).bids
  pub is : bid_at f i ≡ named_bid (kept_dummies f) (bid_at (canonical_file f) k)

pub length-kept_bids : (f : PlainFile) → length (kept_bids f) ≡ length (canonical_file f).bids
length-kept_bids f = length-map (canonical_file f).bids (named_bid (kept_dummies f))

pub counterpart : (f : PlainFile) (i k : ℕ) → IsKeptAs f i k → IsCounterpart f i k
counterpart f i k kept = let none : PlainBid = record { price = 0; goods = []; dummy = None } in
    let index : k < length (canonical_file f).bids = search (rules, length-kept_bids, slice_get_within) in
    record {
      within = priced_within f i kept.bid.positive;
      index = index;
      is = sym (get_or_from_slice_get (kept_bids f) k (bid_at f i) none kept.is)
          ∙ get_or-map (named_bid (kept_dummies f)) (canonical_file f).bids k none none index;
    }

module _ (f : PlainFile) (is : IsPlainFile f) (i j k l : ℕ) (one : IsCounterpart f i k) (other : IsCounterpart f j l) where
  abbrev there : ℕ → PlainBid
  there = bid_at (canonical_file f)

  pub win_there : CanWin f i j → CanWin (canonical_file f) k l
  win_there h = named_win (kept_dummies f) (there k) (there l) (subst₂ (λ (a b : PlainBid). can_both_win a b ≡ true) one.is other.is h)

  below : (m : ℕ) → m < length (canonical_file f).bids → IsDummyBelow (length (kept_dummies f)) (there m).dummy
  below m n = subst (λ D. IsDummyBelow D (there m).dummy) (length-kept_dummies f) (bid_here (canonical_file f) (IsPlainFile-canonical f is) m n).dummy

  pub win_here : CanWin (canonical_file f) k l → CanWin f i j
  win_here h = search (rules, win_named, kept_dummies-differ, below)
