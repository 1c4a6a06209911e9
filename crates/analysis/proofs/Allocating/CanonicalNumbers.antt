-- Numbers of kept bids and numbers of the canonical file. Each gives back the other, so a list of either that rises does too, once what it
-- gives is sorted.
use Rattle.analysis.proofs.Common.{rules, ◌≡◌, ℕ, ◌<◌, true, List, [], ◌∷◌, length, map, refl, sym, ap, ap₂, ◌∙◌, subst, nat_cmp, nat_cmp-IsAntisymmetric, All}
use Rattle.analysis.proofs.Common.{IsPermutation, nat_cmp_total, All-head, All-map, All-tail, All-weaker, IsPermutation-map, IsPermutation-sym, IsRising, Keep}
use Rattle.analysis.proofs.Common.{PlainBid, PlainFile, IsPlainFile, All-sort_by, permutation-sort_by, sorted-sort_by, sorted_is_sort_by, sort_by, bid_at, Zero}
use Rattle.analysis.proofs.Common.{canonical_file, IsPlainFile-canonical, PlainReason, Same, Inside, Packing, IsKeptAs, is_kept, kept_number, IsDecided}
use Rattle.analysis.proofs.Common.{IsAllocation, AreKept, in_canonical_file, kept_as, number_kept_as, same_Some, IsPermutation-trans}
use Rattle.analysis.specs.Reasons.{reason_of}
use Rattle.analysis.proofs.Explaining.BestBids.{alike_from}
use Rattle.analysis.proofs.Explaining.KeptBidsBest.{best-once, one_key_same}
use Rattle.analysis.proofs.Explaining.KeptPoints.{kept_number_is}
use Rattle.analysis.proofs.Explaining.TrueReasons.{reason_is_decided}
use Rattle.analysis.proofs.Allocating.Allocations.{winners_within}
use Rattle.analysis.proofs.Allocating.Reasons.{kept_reason, number_kept_is}
use Rattle.analysis.proofs.Allocating.Renumbering.{IsCounterpart, IsMoved, counterpart, length-kept_bids, renumbered, win_here, win_there}
use Rattle.analysis.proofs.Comparing.LawsLists.{sort_rising}

-- ---- numbers there and back

given_back : (m n : ℕ → ℕ) (xs : List ℕ) → All (λ x. m (n x) ≡ x) xs → map m (map n xs) ≡ xs
given_back m n [] h = refl
given_back m n (x ∷ xs) h = ap₂ (λ (y : ℕ) (ys : List ℕ). y ∷ ys) (All-head (λ y. m (n y) ≡ y) x xs h) (given_back m n xs (All-tail (λ y. m (n y) ≡ y) x xs h))

there_and_back : (m n : ℕ → ℕ) (xs : List ℕ) → IsRising xs → All (λ x. m (n x) ≡ x) xs → sort_by nat_cmp (map m (sort_by nat_cmp (map n xs))) ≡ xs
there_and_back m n xs rising h = let there = sort_by nat_cmp (map n xs) in
    let moved = IsPermutation-map m there (map n xs) (IsPermutation-sym (map n xs) there (permutation-sort_by nat_cmp (map n xs))) in
    let same = IsPermutation-trans (map m there) xs (sort_by nat_cmp xs) (subst (IsPermutation (map m there)) (given_back m n xs h) moved)
    (permutation-sort_by nat_cmp xs) in
    sym (search (rules, sorted_is_sort_by, nat_cmp_total, nat_cmp-IsAntisymmetric, sorted-sort_by)) ∙ sort_rising xs rising

-- ---- kept bids and those of the canonical file

kept_somewhere : (f : PlainFile) (i : ℕ) (r : PlainReason) → IsDecided f i r → is_kept r ≡ true → (k : ℕ) × IsKeptAs f i k
kept_somewhere f i (Keep k) d t = (k, d)
kept_somewhere f i Zero d t = absurd (cc)
kept_somewhere f i (Same j) d t = absurd (cc)
kept_somewhere f i (Inside j) d t = absurd (cc)
kept_somewhere f i (Packing js) d t = absurd (cc)

module _ (f : PlainFile) (is : IsPlainFile f) where
  abbrev other : PlainFile
  other = canonical_file f

  abbrev IsThere : ℕ → Type 0
  IsThere k = k < length other.bids

  number_is : (k : ℕ) → IsThere k → IsKeptAs f (number_kept_as f k) k
  number_is k l = number_kept_is f is k (subst (λ n. k < n) (sym (length-kept_bids f)) l)

  pub reason_there : (k : ℕ) → IsThere k → reason_of f (number_kept_as f k) ≡ Keep k
  reason_there k l = kept_reason f is (number_kept_as f k) k (number_is k l)

  here : (k : ℕ) → IsThere k → IsCounterpart f (number_kept_as f k) k
  here k l = counterpart f (number_kept_as f k) k (number_is k l)

  pub moved_here : (winners : List ℕ) → IsAllocation other winners → IsMoved other f winners (kept_as f winners)
  moved_here winners h = renumbered other f is (number_kept_as f) IsThere (λ k l. (here k l).within) (λ k l. ap (λ (b : PlainBid). b.price) (here k l).is)
      (search (rules, win_here, here)) winners (winners_within other winners h) h

  pub kept_here : (winners : List ℕ) → IsAllocation other winners → AreKept f (kept_as f winners)
  kept_here winners h =
      All-sort_by nat_cmp (λ i. is_kept (reason_of f i) ≡ true) (map (number_kept_as f) winners)
      (All-map (λ i. is_kept (reason_of f i) ≡ true) (number_kept_as f) winners
      (All-weaker IsThere (λ k. is_kept (reason_of f (number_kept_as f k)) ≡ true) (λ k l. ap is_kept (reason_there k l)) winners
      (winners_within other winners h)))

  abbrev IsKept : ℕ → Type 0
  IsKept i = (i < length f.bids) × (is_kept (reason_of f i) ≡ true)

  index_is : (i : ℕ) → IsKept i → IsKeptAs f i (kept_number f i)
  index_is i p =
      let k = kept_somewhere f i (reason_of f i) (reason_is_decided f is i p.0) p.1 in
      subst (IsKeptAs f i) (sym (kept_number_is f is i k.0 k.1)) k.1

  there : (i : ℕ) → IsKept i → IsCounterpart f i (kept_number f i)
  there i p = counterpart f i (kept_number f i) (index_is i p)

  all_kept : (winners : List ℕ) → IsAllocation f winners → AreKept f winners → All IsKept winners
  all_kept winners h kept i d l = (winners_within f winners h i d l, kept i d l)

  pub moved_there : (winners : List ℕ) → IsAllocation f winners → AreKept f winners → IsMoved f other winners (in_canonical_file f winners)
  moved_there winners h kept = renumbered f other (IsPlainFile-canonical f is) (kept_number f) IsKept (λ i p. (there i p).index)
      (λ i p. sym (ap (λ (b : PlainBid). b.price) (there i p).is))
      (search (rules, win_there, there)) winners (all_kept winners h kept) h

  -- ---- one to one

  one_number : (i j k : ℕ) → IsKeptAs f i k → IsKeptAs f j k → i ≡ j
  one_number i j k one two = let same = same_Some (bid_at f i) (bid_at f j) (sym one.is ∙ two.is) in
      best-once f i j (counterpart f i k one).within (counterpart f j k two).within one.bid.best two.bid.best
      (search (rules, alike_from, one_key_same))

  pub back : (winners : List ℕ) → IsAllocation f winners → AreKept f winners → kept_as f (in_canonical_file f winners) ≡ winners
  back winners h kept =
      there_and_back (number_kept_as f) (kept_number f) winners h.numbers.0
      (All-weaker IsKept (λ i. number_kept_as f (kept_number f i) ≡ i) (λ i p.
      one_number (number_kept_as f (kept_number f i)) i (kept_number f i) (number_is (kept_number f i) (there i p).index) (index_is i p))
      winners (all_kept winners h kept))

  pub forth : (winners : List ℕ) → IsAllocation other winners → in_canonical_file f (kept_as f winners) ≡ winners
  forth winners h =
      there_and_back (kept_number f) (number_kept_as f) winners h.numbers.0
      (All-weaker IsThere (λ k. kept_number f (number_kept_as f k) ≡ k) (λ k l. kept_number_is f is (number_kept_as f k) k (number_is k l)) winners
      (winners_within other winners h))
