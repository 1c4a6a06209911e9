-- What a verdict says. It has three cases: a named number that the file does not have, two bids that clash, or neither.
use Rattle.analysis.proofs.Common.{rules, ◌≡◌, ◌↔◌, ℕ, ◌<◌, ◌≤◌, leb, List, length, refl, Option, Some, None, All, Contains, Result, Ok}
use Rattle.analysis.proofs.Common.{Err, unwrap_or, both_ways, cases_lt, leb-false, leb-true, lt-leb, not-false, All-contains, IsBundle, has_good, apart_from}
use Rattle.analysis.proofs.Common.{AreBelow-from_has, IsPlainFile, PlainFile, All-from_Contains, Contains-filter, Contains-filter_parts, find_none, found_none}
use Rattle.analysis.proofs.Common.{range_contains, bid_at, numbers_of, IsFirstClash, allocation_verdict, first_clash, missing_bid, named_bids, verdict_by}
use Rattle.analysis.proofs.Common.{verdict_unless, IsAllocation, revenue, share_dummy, Revenue, and_cases, in_range, AreOneBidders, IsLeastShared, clash_on}
use Rattle.analysis.proofs.Common.{shared_good, AllocationVerdict, SharedBidder, SharedGood, contains_from_has, has_from_contains}
use Rattle.analysis.proofs.Explaining.KeptBids.{bid_here}
use Rattle.analysis.proofs.Allocating.FirstPairs.{all_win_if_none, first_pair, found_at, found_least, none_if_all_win}
use Rattle.analysis.proofs.Allocating.LpRows.{passing_rise, same_dummy}

-- a verdict is one of these
pub data IsVerdict (f : PlainFile) (named : List ℕ) (verdict : Result AllocationVerdict ℕ) : Type 0 where
  Missing : (i : ℕ) → missing_bid f named ≡ Some i → verdict ≡ Err i → IsVerdict f named verdict
  All_win : missing_bid f named ≡ None → first_clash f (named_bids f named) ≡ None → verdict ≡ Ok (Revenue (revenue f (named_bids f named)))
      → IsVerdict f named verdict
  Share : (i j good : ℕ) → missing_bid f named ≡ None → first_clash f (named_bids f named) ≡ Some (i, j)
      → shared_good (bid_at f i) (bid_at f j) ≡ Some good → verdict ≡ Ok (SharedGood i j good) → IsVerdict f named verdict
  Share_none : (i j : ℕ) → missing_bid f named ≡ None → first_clash f (named_bids f named) ≡ Some (i, j)
      → shared_good (bid_at f i) (bid_at f j) ≡ None → verdict ≡ Ok (SharedBidder i j (unwrap_or (bid_at f i).dummy 0)) → IsVerdict f named verdict

module _ (f : PlainFile) (named : List ℕ) where
  abbrev bids : List ℕ
  bids = named_bids f named

  pub cases : IsVerdict f named (allocation_verdict f named)
  cases = by (missing_bid f named) (first_clash f bids) refl refl
    where
      clashing : (i j : ℕ) (good : Option ℕ) → missing_bid f named ≡ None → first_clash f bids ≡ Some (i, j)
          → shared_good (bid_at f i) (bid_at f j) ≡ good → IsVerdict f named (Ok (clash_on f i j good))
      clashing i j (Some good) m c s = Share i j good m c s refl
      clashing i j None m c s = Share_none i j m c s refl

      by : (missing : Option ℕ) (clash : Option (ℕ × ℕ)) → missing_bid f named ≡ missing → first_clash f bids ≡ clash
          → IsVerdict f named (verdict_unless missing (verdict_by f bids clash))
      by (Some i) clash m c = Missing i m refl
      by None None m c = All_win m c refl
      by None (Some pair) m c = clashing pair.0 pair.1 (shared_good (bid_at f pair.0) (bid_at f pair.1)) m c refl

  -- ---- the named bids

  in_named : (i : ℕ) → Contains bids i → Contains named i
  in_named i c = contains_from_has named i (Contains-filter_parts (has_good named) (numbers_of f) i c).1

  in_bids : (i : ℕ) → i < length f.bids → Contains named i → Contains bids i
  in_bids i l c = Contains-filter (has_good named) (numbers_of f) i (range_contains (length f.bids) i l) (has_from_contains named i c)

  pub are_numbers : IsBundle (length f.bids) bids
  are_numbers = (
    passing_rise f (has_good named),
    AreBelow-from_has (length f.bids) bids (λ i h.
        in_range (length f.bids) i (Contains-filter_parts (has_good named) (numbers_of f) i (contains_from_has bids i h)).0),
  )

  pub same_members : All (λ i. i < length f.bids) named → (i : ℕ) → Contains bids i ↔ Contains named i
  same_members within i = (in_named i, λ c. in_bids i (All-contains (λ n. n < length f.bids) named i within c) c)

  within_if_none : missing_bid f named ≡ None → (i : ℕ) → Contains named i → i < length f.bids
  within_if_none none i c = leb-false (length f.bids) i (found_none (leb (length f.bids)) named none i c)

  pub all_within : missing_bid f named ≡ None → All (λ i. i < length f.bids) named
  all_within none = All-from_Contains (λ i. i < length f.bids) named (within_if_none none)

  none_if_within : All (λ i. i < length f.bids) named → missing_bid f named ≡ None
  none_if_within within = search (rules, find_none, lt-leb, All-contains, within)

  -- ---- an allocation

  pub has_revenue : All (λ i. i < length f.bids) named → IsAllocation f bids → allocation_verdict f named ≡ Ok (Revenue (revenue f bids))
  has_revenue within h = search (rules, none_if_within, none_if_all_win)

  pub is_allocation : first_clash f bids ≡ None → IsAllocation f bids
  is_allocation none = record { numbers = are_numbers; win = all_win_if_none f bids none }

  -- ---- a clash

  pub is_first : (i j : ℕ) → missing_bid f named ≡ None → first_clash f bids ≡ Some (i, j) → IsFirstClash f named i j
  is_first i j none c = let p = first_pair f bids are_numbers.0 i j c in search (rules, p.earlier, in_named, in_bids, within_if_none)

  pub is_least : IsPlainFile f → (i j good : ℕ) → first_clash f bids ≡ Some (i, j) → shared_good (bid_at f i) (bid_at f j) ≡ Some good
      → IsLeastShared (bid_at f i).goods (bid_at f j).goods good
  is_least plain i j good c s =
      let p = first_pair f bids are_numbers.0 i j c in
      let within = in_range (length f.bids) i (Contains-filter_parts (has_good named) (numbers_of f) i p.first).0 in
      let less = found_least (has_good (bid_at f j).goods) (bid_at f i).goods (bid_here f plain i within).rising good s in
      search (rules, (found_at (has_good (bid_at f j).goods) (bid_at f i).goods good s), has_from_contains, both_ways, less, contains_from_has, cases_lt)

  pub are_one_bidders : (i j : ℕ) → first_clash f bids ≡ Some (i, j) → shared_good (bid_at f i) (bid_at f j) ≡ None
      → AreOneBidders (bid_at f i) (bid_at f j) (unwrap_or (bid_at f i).dummy 0)
  are_one_bidders i j c s = let a = bid_at f i in
      let b = bid_at f j in
      let apart = apart_from a.goods b.goods (λ g h. found_none (has_good b.goods) a.goods s g (contains_from_has a.goods g h)) in
      let p = first_pair f bids are_numbers.0 i j c in
      search (rules, (same_dummy a.dummy b.dummy (not-false (share_dummy a.dummy b.dummy) (search (rules, both_ways, and_cases)))))

  pub is_missing : (i : ℕ) → missing_bid f named ≡ Some i → Contains named i × (length f.bids ≤ i)
  is_missing i m = let there = found_at (leb (length f.bids)) named i m in (there.0, leb-true (length f.bids) i there.1)

-- ---- from the verdict

pub record HasRevenue (f : PlainFile) (named : List ℕ) (n : ℕ) : Type 0 where
  pub within : All (λ i. i < length f.bids) named
  pub allocation : IsAllocation f (named_bids f named)
  pub revenue : n ≡ revenue f (named_bids f named)

pub record SharesGood (f : PlainFile) (named : List ℕ) (i j good : ℕ) : Type 0 where
  pub first : IsFirstClash f named i j
  pub clash : first_clash f (named_bids f named) ≡ Some (i, j)
  pub shared : shared_good (bid_at f i) (bid_at f j) ≡ Some good

pub record SharesBidder (f : PlainFile) (named : List ℕ) (i j dummy : ℕ) : Type 0 where
  pub first : IsFirstClash f named i j
  pub bidders : AreOneBidders (bid_at f i) (bid_at f j) dummy

module _ (f : PlainFile) (named : List ℕ) where
  pub if_revenue : (n : ℕ) → allocation_verdict f named ≡ Ok (Revenue n) → HasRevenue f named n
  if_revenue n e = search (rules, cases, all_within, is_allocation)

  pub if_good : (i j good : ℕ) → allocation_verdict f named ≡ Ok (SharedGood i j good) → SharesGood f named i j good
  if_good i j good e = search (rules, (cases f named), (is_first f named i j))

  pub if_bidder : (i j dummy : ℕ) → allocation_verdict f named ≡ Ok (SharedBidder i j dummy) → SharesBidder f named i j dummy
  if_bidder i j dummy e = search (rules, (cases f named), (is_first f named i j), (are_one_bidders f named i j))

  pub if_missing : (i : ℕ) → allocation_verdict f named ≡ Err i → Contains named i × (length f.bids ≤ i)
  if_missing i e = search (rules, cases, is_missing)
