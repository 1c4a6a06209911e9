-- What the code finds out for each bid explains the file. The idea: a bid of the canonical file has no other reason than that
-- it is one, since a better bid is not its own, and the other reasons are those of bids that are none. So what is named is
-- kept; and of each bid of the canonical file the best bid alone has its number.
use Rattle.analysis.proofs.Common.{rules, ◌≡◌, ℕ, ◌<◌, true, List, [], ◌∷◌, length, refl, sym, ap, ◌∙◌, subst, arith, AllByRecursion, both_ways, eqb-true, Keep}
use Rattle.analysis.proofs.Common.{eq-eqb, get_or_past, length-filter, slice_get_within, PlainFile, IsPlainFile, kept_bids, bid_at, PlainReason, Zero, Same}
use Rattle.analysis.proofs.Common.{Inside, Packing, is_kept, is_kept_as, reason_at, IsKeptAs, Explains, IsPointBid, IsPointInside, IsDecided, count_by}
use Rattle.analysis.proofs.Common.{IsKeptInside, IsReason}
use Rattle.analysis.proofs.Explaining.BestBids.{alike_from}
use Rattle.analysis.proofs.Explaining.KeptBidsLists.{all_numbers, filter_one}
use Rattle.analysis.proofs.Explaining.KeptBidsBest.{best-once, one_key_same}
use Rattle.analysis.proofs.Explaining.KeptBids.{kept-is-best, kept-once}

-- a bid with a price is a bid of the file
pub priced_within : (f : PlainFile) (j : ℕ) → 0 < (bid_at f j).price → j < length f.bids
priced_within f j positive = search (rules, get_or_past)

-- the reason of the best bid that is bid k of the canonical file
pub kept_decided : (f : PlainFile) (j k : ℕ) → IsKeptAs f j k → (r : PlainReason) → IsDecided f j r → r ≡ Keep k
kept_decided f j k kept (Keep l) d =
    ap Keep (kept-once f l k (slice_get_within (kept_bids f) l (bid_at f j) d.is) (slice_get_within (kept_bids f) k (bid_at f j) kept.is)
    (d.is ∙ sym kept.is))
kept_decided f j k kept Zero d = let positive = kept.bid.positive in absurd (omega arith)
kept_decided f j k kept (Same i) d = search (rules, both_ways, eq-eqb, best-once, priced_within)
kept_decided f j k kept (Inside i) d = absurd (d.no_point k kept.is)
kept_decided f j k kept (Packing is) d = absurd (d.no_point k kept.is)

-- a reason that keeps a bid as bid k is true
pub kept_from : (f : PlainFile) (i k : ℕ) (r : PlainReason) → IsDecided f i r → is_kept_as k r ≡ true → IsKeptAs f i k
kept_from f i k (Keep l) d t = subst (IsKeptAs f i) (sym (eqb-true k l t)) d
kept_from f i k Zero d t = absurd (cc)
kept_from f i k (Same j) d t = absurd (cc)
kept_from f i k (Inside j) d t = absurd (cc)
kept_from f i k (Packing js) d t = absurd (cc)

-- no two bids are one of the canonical file
kept_alone : (f : PlainFile) (i j k : ℕ) → IsKeptAs f i k → IsKeptAs f j k → i ≡ j
kept_alone f i j k one other = let bids : bid_at f i ≡ bid_at f j = cc in search (rules, best-once, priced_within, alike_from, one_key_same)

module _ (f : PlainFile) (reasons : List PlainReason) (is : IsPlainFile f) (long : length reasons ≡ length f.bids)
    (decided : (i : ℕ) → i < length f.bids → IsDecided f i (reason_at reasons i)) where
  reason_is : (j k : ℕ) → IsKeptAs f j k → reason_at reasons j ≡ Keep k
  reason_is j k kept = kept_decided f j k kept (reason_at reasons j) (decided j (priced_within f j kept.bid.positive))

  -- a bid of the canonical file is kept
  point_is_kept : (j : ℕ) → IsPointBid f j → is_kept (reason_at reasons j) ≡ true
  point_is_kept j point = ap is_kept (reason_is j point.k point.is)

  kept_inside : (goods : List ℕ) (js : List ℕ) → AllByRecursion (IsPointInside f goods) js → AllByRecursion (IsKeptInside f reasons goods) js
  kept_inside goods [] h = tt
  kept_inside goods (j ∷ js) h = (record { or = h.0.or; kept = point_is_kept j h.0.point; inside = h.0.inside }, kept_inside goods js h.1)

  is_reason : (i : ℕ) (r : PlainReason) → IsDecided f i r → IsReason f reasons i r
  is_reason i (Keep k) d = d
  is_reason i Zero d = d
  is_reason i (Same j) d = d
  is_reason i (Inside j) d = search (rules, point_is_kept)
  is_reason i (Packing js) d = search (rules, kept_inside)

  kept_once : (k : ℕ) → k < length (kept_bids f) → count_by (is_kept_as k) reasons ≡ 1
  kept_once k l = let best = kept-is-best f is k l in
      let j = best.0 in
      let kept = best.2 in
      sym (length-filter (is_kept_as k) reasons) ∙ filter_one (is_kept_as k) reasons Zero j (omega arith)
      (ap (is_kept_as k) (reason_is j k kept) ∙ eq-eqb k k refl)
      (λ i m t. kept_alone f i j k (kept_from f i k (reason_at reasons i) (decided i (omega arith)) t) kept)

-- decided reasons explain the file
pub explained : (f : PlainFile) (reasons : List PlainReason) → IsPlainFile f → length reasons ≡ length f.bids
    → ((i : ℕ) → i < length f.bids → IsDecided f i (reason_at reasons i)) → Explains f reasons
explained f reasons is long decided = search (rules, all_numbers, is_reason, kept_once)
