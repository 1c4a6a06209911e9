-- The greatest revenue of a file and of its canonical file. Kept bids are enough, they are the bids of the canonical file, and files of one
-- auction have one canonical file.
use Rattle.analysis.proofs.Common.{rules, ◌≡◌, ℕ, ◌<◌, ◌≤◌, true, List, length, sym, ap, ◌∙◌, le_antisymm, arith, nat_cmp, Contains, flat_map, All-weaker}
use Rattle.analysis.proofs.Common.{PlainFile, IsPlainFile, auction_from, All-sort_by, canonical_file, is_kept, AreWinners, IsAllocation, greatest_revenue}
use Rattle.analysis.proofs.Common.{revenue, AreKept, in_place_of, kept_as, file_from, AreSameFiles, same_canonical, HasAtoms-file, with_kept_bids}
use Rattle.analysis.specs.Reasons.{reason_of}
use Rattle.analysis.proofs.Allocating.Allocations.{greatest_revenue_at_most, pairs_from_test, revenue_at_most, revenue_of_sorted, sorted_is_allocation}
use Rattle.analysis.proofs.Allocating.Allocations.{winners_within}
use Rattle.analysis.proofs.Allocating.CanonicalNumbers.{moved_here, moved_there}
use Rattle.analysis.proofs.Allocating.Replacing.{AreForAll, StandsFor, all_replaced}

-- ---- kept bids in the place of dropped ones

module _ (f : PlainFile) (is : IsPlainFile f) (winners : List ℕ) (h : IsAllocation f winners) where
  abbrev bids : List ℕ
  bids = flat_map (in_place_of f) winners

  replaced : AreForAll f winners bids
  replaced = all_replaced f is winners (winners_within f winners h) (pairs_from_test f winners h.win)

  abbrev IsFor : ℕ → Type 0
  IsFor j = (i : ℕ) × Contains winners i × StandsFor f i j

  pub kept_allocation : IsAllocation f (with_kept_bids f winners)
  kept_allocation = sorted_is_allocation f is bids (All-weaker IsFor (λ j. j < length f.bids) (λ j s. s.2.within) bids replaced.each) replaced.win

  pub kept_revenue : revenue f winners ≤ revenue f (with_kept_bids f winners)
  kept_revenue = let enough = replaced.enough in let same = revenue_of_sorted f bids in omega arith

  pub kept_each : AreKept f (with_kept_bids f winners)
  kept_each =
      All-sort_by nat_cmp (λ i. is_kept (reason_of f i) ≡ true) bids
      (All-weaker IsFor (λ j. is_kept (reason_of f j) ≡ true) (λ j s. s.2.kept) bids replaced.each)

  pub kept_winners : revenue f winners ≡ greatest_revenue f → AreWinners f (with_kept_bids f winners)
  kept_winners greatest = search (rules, kept_revenue, revenue_at_most, kept_allocation)

-- ---- the greatest revenue

module _ (f : PlainFile) (is : IsPlainFile f) where
  pub greatest_is_canonical : greatest_revenue (canonical_file f) ≡ greatest_revenue f
  greatest_is_canonical = le_antisymm
      (greatest_revenue_at_most (canonical_file f) f (λ winners h.
      let moved = moved_here f is winners h in (kept_as f winners, moved.allocation, omega arith)))
      (greatest_revenue_at_most f (canonical_file f) (λ winners h.
      let kept = with_kept_bids f winners in
      let moved = moved_there f is kept (kept_allocation f is winners h) (kept_each f is winners h) in
      search (rules, kept_revenue)))

  pub winners_here : (winners : List ℕ) → AreWinners (canonical_file f) winners → AreWinners f (kept_as f winners)
  winners_here winners h = search (rules, moved_here, greatest_is_canonical)

pub greatest_is_same : (f g : PlainFile) → IsPlainFile f → IsPlainFile g → AreSameFiles f g → greatest_revenue f ≡ greatest_revenue g
greatest_is_same f g h k s =
    let one : canonical_file f ≡ canonical_file g =
    ap file_from (same_canonical (auction_from f) (auction_from g) (HasAtoms-file f h) (HasAtoms-file g k) s) in
    sym (greatest_is_canonical f h) ∙ ap greatest_revenue one ∙ greatest_is_canonical g k
