-- The best bids that a walk over the bids in order passes are a bidder's best bids, in order: of each bundle one alone is the best.
use Rattle.analysis.proofs.Common.{[], common_steps, rules, ◌≡◌, ◌≢◌, ℕ, ◌+◌, ◌<◌, ◌≤◌, true, false, eqb, ⊎_elim, List, ◌∷◌, ◌++◌}
use Rattle.analysis.proofs.Common.{length, map, get_or, take, drop, Option, refl, sym, ap, ◌∙◌, subst, arith, Ordering, Less, Equal, Greater, is_lt, AllPairs}
use Rattle.analysis.proofs.Common.{Contains, filter, and_from, and_parts, both_ways, cases_lt, eq-eqb, eqb-true, lt-ltb, ltb-true, Decides-eqb, drop_more, Atom}
use Rattle.analysis.proofs.Common.{get_or-map, get_or_append_left, get_or_at, length-append, length-map, map-append, All-contains, Contains-append_left, bid_at}
use Rattle.analysis.proofs.Common.{Contains-append_right, Contains-get_or, filter-append, filter_more, AllPairs-filter, IsPermutation-map, ranks_by, sorted_far}
use Rattle.analysis.proofs.Common.{IsDistinct-IsPermutation, IsDistinct-from_AllPairs, IsInside, IsRising, bundle_cmp, bundle_cmp_equal, bundle_cmp_total}
use Rattle.analysis.proofs.Common.{nat_cmp-refl, PlainBid, PlainFile, IsDummyBelow, IsPlainFile, seen_bid, atom_of, atom_at, AllPairs-map, Contains-cons_cases}
use Rattle.analysis.proofs.Common.{Contains-map, Contains-unmap, best_bids, IsBefore, IsInOrder, same_in_order, Contains-filter, Contains-filter_parts, is_best}
use Rattle.analysis.proofs.Common.{Contains-head, filter-kept, NumberedBid, point_number, points_of, AreInOrder, numbered_cmp, Known}
use Rattle.analysis.proofs.Common.{IsNextBest, is_best_of, is_kept_atom, is_kept_bid, passed_bids, get_or-append_right, take-append-drop, before_not_inside}
use Rattle.analysis.proofs.Common.{AllPairs-from_IsDistinct, behind_next, filter-map}
use Rattle.analysis.proofs.Explaining.BestBids.{alike_from, at_number, numbered, numbered_cmp_total}
use Rattle.analysis.proofs.Explaining.BestNumbers.{best_number_is}
use Rattle.analysis.proofs.Explaining.KeptBids.{bid_here}
use Rattle.analysis.proofs.Explaining.KeptBidsBest.{atoms_of_bidder, best-once, best_of_greatest, same_bidder}
use Rattle.analysis.proofs.Explaining.KeptPoints.{best_is_there, kept_points}
use Rattle.analysis.proofs.Explaining.Packings.{pairs_unmap}
use Rattle.analysis.proofs.Explaining.Turning.{next_at, next_here, next_within}
use Rattle.analysis.proofs.Explaining.PointFates.{best_bids-are, best_bids-in_order}
use Rattle.canon.specs.Lemmas.OrDifferences.{eqb_swap}

-- what a bid of the list offers
abbrev pub offer : NumberedBid → Atom (List ℕ)
offer n = atom_of (seen_bid n.bid)

behind_first : {X : Type 0} (xs ys : List X) (q : ℕ) (d : X) → length xs ≤ q → q < length (xs ++ ys) → Contains ys (get_or (xs ++ ys) q d)
behind_first xs ys q d l m = let same = get_or-append_right xs ys (length xs) q d refl l in search (rules, Contains-get_or, length-append)

-- no two bids of the list are one
module _ (f : PlainFile) (bids : List NumberedBid) (order : AreInOrder f bids) where
  abbrev number : NumberedBid → ℕ
  number n = n.number

  first_numbers : AllPairs (λ i j. i ≢ j) (map number order.numbered)
  first_numbers i j d l m = let long = length-map order.numbered number in let blank : NumberedBid = grind (arith, common_steps, order) in
      let one = get_or-map number order.numbered i blank d (omega arith) in let other = get_or-map number order.numbered j blank d (omega arith) in
      search (rules, order)

  numbers_differ : AllPairs (λ m n. m.number ≢ n.number) bids
  numbers_differ = pairs_unmap (λ i j. i ≢ j) number bids (AllPairs-from_IsDistinct Decides-eqb (map number bids)
      (IsDistinct-IsPermutation eqb eqb_swap (map number order.numbered) (map number bids) (IsPermutation-map number order.numbered bids order.same)
      (IsDistinct-from_AllPairs Decides-eqb (map number order.numbered) first_numbers)))

  none_after : AllPairs (λ m n. is_lt (numbered_cmp n m) ≡ false) bids
  none_after i j d l m = sorted_far _ (ranks_by numbered_cmp_total (λ (n : NumberedBid). n)) bids order.sorted i j d (omega arith) m

module _ (f : PlainFile) (is : IsPlainFile f) (bids : List NumberedBid) (order : AreInOrder f bids) (dummy : Option ℕ)
    (below : IsDummyBelow f.dummy dummy) where
  abbrev all : List NumberedBid
  all = filter (is_best_of f dummy) bids

  pub record IsOne (n : NumberedBid) : Type 0 where
    pub within : n.number < length f.bids
    pub seen : seen_bid n.bid ≡ bid_at f n.number
    pub bidder : n.bid.dummy ≡ dummy
    pub positive : 0 < n.bid.price
    pub best : is_best f n.number ≡ true

  pub one_of_all : (n : NumberedBid) → Contains all n → IsOne n
  one_of_all n c = let there = Contains-filter_parts (is_best_of f dummy) bids n c in let here = numbered f bids order (bid_at f 0) n there.0 in
      search (rules, and_parts, same_bidder, eqb-true, ltb-true)

  before : (m n : NumberedBid) → IsOne m → IsOne n → m.number ≢ n.number → is_lt (numbered_cmp n m) ≡ false
      → (o : Ordering) → bundle_cmp m.bid.goods.now n.bid.goods.now ≡ o → o ≡ Less
  before m n a b differ after Less e = refl
  before m n a b differ after Equal e = let goods : (seen_bid m.bid).goods ≡ (seen_bid n.bid).goods = bundle_cmp_equal m.bid.goods.now n.bid.goods.now e in
      absurd (differ (best-once f m.number n.number a.within b.within a.best b.best (search (rules, alike_from, a, b))))
  before m n a b differ after Greater e = search (rules, bundle_cmp_total, nat_cmp-refl, both_ways)

  all_in_order : IsInOrder (map offer all)
  all_in_order = AllPairs-map (λ m n. IsBefore (offer m) (offer n)) IsBefore offer (λ m n h. h) all (λ i j d l m.
      let first : i < length all = omega arith in
      let differ = AllPairs-filter (λ m n. m.number ≢ n.number) (is_best_of f dummy) bids (numbers_differ f bids order) i j d l m in
      let after = AllPairs-filter (λ m n. is_lt (numbered_cmp n m) ≡ false) (is_best_of f dummy) bids (none_after f bids order) i j d l m in
      search (rules, before, one_of_all, Contains-get_or))

  its_best : (a : Atom (List ℕ)) → Contains (map offer all) a → Contains (best_bids f.goods (atoms_of_bidder f dummy)) a
  its_best a c = let r = Contains-unmap offer all a c in let one = one_of_all r.0 r.1 in
      subst (λ (o : Option ℕ). Contains (best_bids f.goods (atoms_of_bidder f o)) a) (ap (λ (z : PlainBid). z.dummy) (sym one.seen) ∙ one.bidder)
      (search (rules, atoms_of_bidder, best_is_there, is))

  best_is_listed : (a : Atom (List ℕ)) → Contains (best_bids f.goods (atoms_of_bidder f dummy)) a → Contains (map offer all) a
  best_is_listed a c = let h = best_bids-are f.goods (atoms_of_bidder f dummy) a c in
      let j = best_of_greatest f dummy a.bundle (omega arith) in
      let n = at_number f bids order (bid_at f j.0) j.0 j.1.within in
      let is_it : offer n.0 ≡ a = search rules in
      subst (Contains (map offer all)) is_it (Contains-map offer all n.0 (search (rules, Contains-filter, and_from, eq-eqb, lt-ltb)))

  pub all_passed : map offer all ≡ best_bids f.goods (atoms_of_bidder f dummy)
  all_passed = search (rules, same_in_order, atoms_of_bidder, all_in_order, best_bids-in_order, its_best, best_is_listed)

-- ---- the next best bid

module _ {known : Known} {index : ℕ} {n : NumberedBid} (best : IsNextBest known index n) where
  abbrev f : PlainFile
  f = known.file.now

  abbrev bids : List NumberedBid
  bids = known.bids.items

  is : IsPlainFile f
  is = best.next.is.plain

  order : AreInOrder f bids
  order = best.next.is.order

  abbrev dummy : Option ℕ
  dummy = n.bid.dummy

  pub next_below : IsDummyBelow f.dummy dummy
  next_below = subst (λ (b : PlainBid). IsDummyBelow f.dummy b.dummy) (sym (next_here best.next).1) (bid_here f is n.number (next_here best.next).0).dummy

  passes : is_best_of f dummy n ≡ true
  passes = search (rules, and_from, eq-eqb, lt-ltb, best)

  abbrev pub done : List NumberedBid
  done = passed_bids f bids dummy index

  abbrev more : List NumberedBid
  more = filter (is_best_of f dummy) (drop (index + 1) bids)

  split : filter (is_best_of f dummy) bids ≡ done ++ n ∷ more
  split = let cut = take-append-drop index bids in let both = filter-append (is_best_of f dummy) (take index bids) (drop index bids) in
      let here = drop_more bids index n (next_within best.next) in let there = next_at best.next n in search (rules, filter-kept, passes)

  pub passed_more : passed_bids f bids dummy (index + 1) ≡ done ++ n ∷ []
  passed_more = let step = filter_more (is_best_of f dummy) bids index n (next_within best.next) in let there = next_at best.next n in search (rules, passes)

  abbrev rest : List (Atom (List ℕ))
  rest = offer n ∷ map offer more

  pub best_split : best_bids f.goods (atoms_of_bidder f dummy) ≡ map offer done ++ rest
  best_split = sym (all_passed f is bids order dummy next_below) ∙ ap (map offer) split ∙ map-append offer done (n ∷ more)

  -- the bidder's points so far
  abbrev pub kept : List NumberedBid
  kept = filter (is_kept_bid f dummy) done

  points_split : points_of f dummy ≡ map offer kept ++ filter (is_kept_atom f dummy) rest
  points_split = search (rules, kept_points, is, next_below, best_split, filter-append, filter-map)

  abbrev blank : Atom (List ℕ)
  blank = record { bundle = []; price = 0 }

  -- the number of the bid that such a point is
  pub number_of_point : (p : ℕ) → p < length kept → get_or (map (λ (m : NumberedBid). m.number) kept) p 0 ≡ point_number f dummy p
  number_of_point p l = let m : NumberedBid = get_or kept p n in
      let in_all = Contains-append_left done (n ∷ more) m (Contains-filter_parts (is_kept_bid f dummy) done m (Contains-get_or kept p n l)).0 in
      let one = one_of_all f is bids order dummy next_below m (subst (λ (xs : List NumberedBid). Contains xs m) (sym split) in_all) in
      search (rules, best_number_is, get_or-map, length-map, points_split, get_or_append_left)

  -- if it is dropped, the points inside its goods are among them
  pub inside_is_kept : is_kept_bid f dummy n ≡ false → (q : ℕ) → q < length (points_of f dummy)
      → IsInside (atom_at (points_of f dummy) q).bundle (offer n).bundle → q < length kept
  inside_is_kept dropped q within inside = ⊎_elim (λ (l : q < length kept). l) (λ (l : length kept ≤ q).
      let long = length-map kept offer in let same_long = ap (length {A = Atom (List ℕ)}) points_split in
      let in_tail = behind_first (map offer kept) (filter (is_kept_atom f dummy) rest) q blank (omega arith) (omega arith) in
      let there = Contains-filter_parts (is_kept_atom f dummy) rest (atom_at (points_of f dummy) q) (search (rules, points_split)) in
      absurd (not_inside (atom_at (points_of f dummy) q) there.0 there.1 inside)) (cases_lt q (length kept))
    where
      rising : (a : Atom (List ℕ)) → Contains rest a → IsRising a.bundle
      rising a c = (best_bids-are f.goods (atoms_of_bidder f dummy) a (subst (λ (xs : List (Atom (List ℕ))). Contains xs a) (sym best_split)
          (Contains-append_right (map offer done) rest a c))).bundle.0

      not_inside : (a : Atom (List ℕ)) → Contains rest a → is_kept_atom f dummy a ≡ true → IsInside a.bundle (offer n).bundle → ⊥
      not_inside a c t i = ⊎_elim (search (rules, both_ways)) (λ (m : Contains (map offer more) a).
          before_not_inside (offer n).bundle a.bundle (rising (offer n) (Contains-head (offer n) (map offer more))) (rising a c)
          (All-contains (IsBefore (offer n)) (map offer more) a (behind_next (map offer done) (offer n) (map offer more)
          (search (rules, best_split, best_bids-in_order, atoms_of_bidder))) m) i) (Contains-cons_cases (offer n) (map offer more) a c)

  -- if it is kept itself, it is the next point
  pub next_point : is_kept_bid f dummy n ≡ true → (length kept < length (points_of f dummy)) × (atom_at (points_of f dummy) (length kept) ≡ offer n)
  next_point t = search (rules, length-map, points_split, filter-kept, length-append, get_or_at)
