-- With the same partners there is one list of changes. The idea: the left bidders and their partners are given, and so is which
-- right bidders are alone, in which order; and a change is determined by its bidders.
use Rattle.analysis.proofs.Common.{rules, ◌≡◌, ℕ, ◌+◌, true, List, [], ◌∷◌, map, get_or, refl, sym, ap, ap₂, ◌∙◌, Option, Some, None, All, is_some, ◌||◌, Atom}
use Rattle.analysis.proofs.Common.{nat_cmp-IsAntisymmetric, cons_option, filter_map, is_none, nat_cmp, nat_cmp_total, append-nil, All-filter, All-head, bids_at}
use Rattle.analysis.proofs.Common.{All-tail, IsRising, count_of, PlainBidderChange, IsBidderChange, AreBidderChanges, lefts_of, rights_of, with_left}
use Rattle.analysis.proofs.Common.{filter_passes, sort_by-same}
use Rattle.analysis.specs.BidderChanges.{right_alone}
use Rattle.analysis.proofs.Comparing.Changes.{count-append, lefts-append, no_lefts_alone, rights-append}
use Rattle.analysis.proofs.Comparing.ExchangedChanges.{one_list_of_changes}
use Rattle.analysis.proofs.Explaining.KeptBidsBest.{none_is}
use Rattle.analysis.proofs.Comparing.LawsLists.{sort_rising}

-- ---- lists

-- if each has one
map_of_some : (h : PlainBidderChange → Option ℕ) (xs : List PlainBidderChange) → All (λ c. is_some (h c) ≡ true) xs
    → map h xs ≡ map (λ i. Some i) (filter_map h xs)
map_of_some h [] all = refl
map_of_some h (c ∷ xs) all =
    at (h c) (All-head (λ (d : PlainBidderChange). is_some (h d) ≡ true) c xs all)
    (map_of_some h xs (All-tail (λ (d : PlainBidderChange). is_some (h d) ≡ true) c xs all))
  where
    at : (o : Option ℕ) → is_some o ≡ true → map h xs ≡ map (λ i. Some i) (filter_map h xs) → o ∷ map h xs ≡ map (λ i. Some i) (cons_option o (filter_map h xs))
    at (Some i) e same = ap (λ (os : List (Option ℕ)). Some i ∷ os) same
    at None e same = absurd (cc)

map_of_none : (xs : List PlainBidderChange) → All (λ c. c.left ≡ None) xs → map (λ c. c.left) xs ≡ map (λ (o : Option ℕ). None) (map (λ c. c.right) xs)
map_of_none [] all = refl
map_of_none (c ∷ xs) all =
    ap₂ (λ (o : Option ℕ) (os : List (Option ℕ)). o ∷ os) (All-head (λ (d : PlainBidderChange). d.left ≡ None) c xs all)
    (map_of_none xs (All-tail (λ (d : PlainBidderChange). d.left ≡ None) c xs all))

same_rising : (xs ys : List ℕ) → IsRising xs → IsRising ys → ((i : ℕ) → count_of nat_cmp i xs ≡ count_of nat_cmp i ys) → xs ≡ ys
same_rising xs ys r s same = search (rules, sort_rising, sort_by-same, nat_cmp_total, nat_cmp-IsAntisymmetric)

same_head : (o p : Option ℕ) (os ps : List (Option ℕ)) → o ∷ os ≡ p ∷ ps → o ≡ p
same_head o p os ps e = cc

same_rest : (o p : Option ℕ) (os ps : List (Option ℕ)) → o ∷ os ≡ p ∷ ps → os ≡ ps
same_rest o p os ps e = cc

-- ---- the changes of two files

module _ (left right : List (List (Atom (List ℕ)))) where
  same_change : (c d : PlainBidderChange) → IsBidderChange left right c → IsBidderChange left right d → c.left ≡ d.left → c.right ≡ d.right → c ≡ d
  same_change c d h k e f = let bids : c.bids ≡ d.bids = one_list_of_changes (bids_at left c.left) (bids_at right c.right) c.bids d.bids h.bids
      (search rules) in
      search rules

  same_changes : (xs ys : List PlainBidderChange) → All (IsBidderChange left right) xs → All (IsBidderChange left right) ys
      → map (λ c. c.left) xs ≡ map (λ c. c.left) ys → map (λ c. c.right) xs ≡ map (λ c. c.right) ys → xs ≡ ys
  same_changes [] [] h k e f = refl
  same_changes [] (d ∷ ys) h k e f = absurd (cc)
  same_changes (c ∷ xs) [] h k e f = absurd (cc)
  same_changes (c ∷ xs) (d ∷ ys) h k e f = let is = IsBidderChange left right in
      ap₂ (λ (z : PlainBidderChange) (zs : List PlainBidderChange). z ∷ zs)
      (search (rules, same_change, All-head, same_head))
      (same_changes xs ys (All-tail is c xs h) (All-tail is d ys k) (same_rest c.left d.left (map (λ z. z.left) xs) (map (λ z. z.left) ys) e)
      (same_rest c.right d.right (map (λ z. z.right) xs) (map (λ z. z.right) ys) f))

  -- a change without a left bidder has a right one
  is_right : (c : PlainBidderChange) → IsBidderChange left right c → c.left ≡ None → is_some c.right ≡ true
  is_right c h e = sym (ap (λ (o : Option ℕ). is_some o || is_some c.right) e) ∙ h.some

  module _ (changes : List PlainBidderChange) (are : AreBidderChanges left right changes) where
    none_left : All (λ c. c.left ≡ None) (right_alone changes)
    none_left k d l = none_is (get_or (right_alone changes) k d).left (filter_passes (λ c. is_none c.left) changes k d l)

    each_alone : All (IsBidderChange left right) (right_alone changes)
    each_alone = All-filter (λ c. is_none c.left) (IsBidderChange left right) changes are.each

    each_with_left : All (IsBidderChange left right) (with_left changes)
    each_with_left = All-filter (λ c. is_some c.left) (IsBidderChange left right) changes are.each

    lefts_of_first : map (λ c. c.left) (with_left changes) ≡ map (λ i. Some i) (lefts_of changes)
    lefts_of_first = search (rules, map_of_some, filter_passes, lefts-append, no_lefts_alone, none_left, append-nil)

    rights_of_last : map (λ c. c.right) (right_alone changes) ≡ map (λ i. Some i) (rights_of (right_alone changes))
    rights_of_last = search (rules, map_of_some, is_right, each_alone, none_left)

    rights_counted_apart : (i : ℕ) → count_of nat_cmp i (rights_of changes)
        ≡ count_of nat_cmp i (rights_of (with_left changes)) + count_of nat_cmp i (rights_of (right_alone changes))
    rights_counted_apart i =
        ap (λ (xs : List PlainBidderChange). count_of nat_cmp i (rights_of xs)) are.alone_last
        ∙ ap (count_of nat_cmp i) (rights-append (with_left changes) (right_alone changes))
        ∙ count-append i (rights_of (with_left changes)) (rights_of (right_alone changes))

  pub one_with_partners : (one other : List PlainBidderChange) → AreBidderChanges left right one → AreBidderChanges left right other
      → map (λ c. c.right) (with_left one) ≡ map (λ c. c.right) (with_left other) → one ≡ other
  one_with_partners one other are also same = let first : with_left one ≡ with_left other =
      same_changes (with_left one) (with_left other) (each_with_left one are) (each_with_left other also)
      (search (rules, lefts_of_first)) same in
      let alone : rights_of (right_alone one) ≡ rights_of (right_alone other) =
      same_rising (rights_of (right_alone one)) (rights_of (right_alone other)) are.alone_in_order also.alone_in_order
      (λ i. let a = rights_counted_apart one are i in
      let b = rights_counted_apart other also i in
      let c = are.rights i in
      let d = also.rights i in
      search rules) in
      let rights : map (λ c. c.right) (right_alone one) ≡ map (λ c. c.right) (right_alone other) = search (rules, rights_of_last) in
      let last : right_alone one ≡ right_alone other = same_changes (right_alone one) (right_alone other) (each_alone one are) (each_alone other also)
      (search (rules, map_of_none, none_left)) rights in
      search rules
