-- Walks over the bids of bidders. The bids of the first bidder are the leading ones with its dummy good, and those of the others
-- come after them. If two lists of bidders that never fall are the same up to some bidder, the lesser of the next two is the least
-- bidder that the lists do not have equally often.
use Rattle.canon.proofs.Common.{◌≡◌, ℕ, ◌+◌, ◌<◌, ◌≤◌, true, eqb, cond, List, [], ◌∷◌, ◌++◌, length, map, take, drop, refl, sym, ap, ap₂, ◌∙◌, ◌⊎◌, subst}
use Rattle.canon.proofs.Common.{arith, append_assoc, Option, Some, None, Less, Equal, Greater, rules, All, MatchOption, AllByRecursion, slice_get, option_eq}
use Rattle.canon.proofs.Common.{option_or, is_eq, ordering_reverse, cases_Bool, both_ways, eq-eqb, ne_eqb, length-map, length-take-le, take-append-le}
use Rattle.canon.proofs.Common.{take_all, drop-append-le, drop_all, All-nil, All-cons, All-head, All-tail, recursion_from_All, sum_by-cons}
use Rattle.canon.proofs.Common.{prefix_len-le-length, PlainBid, Atom, PlainAuction, IsAtom, atom_of, bidder_cmp, bidder_cmp_total, bidder_cmp_equal, IsOrdered}
use Rattle.canon.proofs.Common.{ordered-sort_by, All-sort_by, count_of, xor_table, is_nonzero, xor_points, no_xor_points, on_bundles, offers, leading}
use Rattle.canon.proofs.Common.{AreBidsOf, HasBidders, IsFirstBidder, bid_from, dummy_bids, canonical_auction, points_of_bidders, InXor, least_unequal_bidder}
use Rattle.canon.proofs.Common.{xor_difference, least_uneven, least_uneven_swap, none_of_same, behind, parts_at_left, common_steps}
use Rattle.canon.proofs.CanonicalAuctions.Counting.{points_more, points_without}

-- ---- the first bidder

-- the bids of the next bidder have another one
none_leading : (d : ℕ) (bidders : List (List (Atom (List ℕ)))) → AllByRecursion (λ bidder. 0 < length bidder) bidders
    → leading (Some d) (dummy_bids (d + 1) bidders) ≡ 0
none_leading d [] h = refl
none_leading d ([] ∷ bs) h = absurd (omega (arith, h.0))
none_leading d ((a ∷ more) ∷ bs) h = search (rules, ne_eqb)

all_leading : (d : ℕ) (bidder : List (Atom (List ℕ))) (rest : List PlainBid) → leading (Some d) rest ≡ 0
    → leading (Some d) (map (bid_from (Some d)) bidder ++ rest) ≡ length bidder
all_leading d [] rest e = e
all_leading d (a ∷ more) rest e = search (rules, eq-eqb, (all_leading d more rest e))

offered : (d : ℕ) (bidder : List (Atom (List ℕ))) → map atom_of (map (bid_from (Some d)) bidder) ≡ bidder
offered d [] = refl
offered d (a ∷ more) = ap (λ (zs : List (Atom (List ℕ))). a ∷ zs) (offered d more)

-- the leading bids, as many as the bidder has, are the bidder's, and the others are behind them
parts_of_bids : (d : ℕ) (bidder : List (Atom (List ℕ))) (bidders : List (List (Atom (List ℕ)))) (bids : List PlainBid)
    → AreBidsOf d (bidder ∷ bidders) bids → (n : ℕ) → n ≡ length bidder → (offers (take n bids) ≡ bidder) × AreBidsOf (d + 1) bidders (drop n bids)
parts_of_bids d bidder bidders bids h n e = search (rules, length-map, take-append-le, take_all, drop-append-le, drop_all, offered)

leading_own : (d : ℕ) (bidder : List (Atom (List ℕ))) (bidders : List (List (Atom (List ℕ)))) (bids : List PlainBid)
    → AreBidsOf d (bidder ∷ bidders) bids → leading (Some d) bids ≡ length bidder
leading_own d bidder bidders bids h = ap (leading (Some d)) h.are ∙ all_leading d bidder (dummy_bids (d + 1) bidders) (none_leading d bidders h.each.1)

first_dummy : (d : ℕ) (bidder : List (Atom (List ℕ))) (bidders : List (List (Atom (List ℕ)))) (b : PlainBid) (bids : List PlainBid)
    → AreBidsOf d (bidder ∷ bidders) (b ∷ bids) → b.dummy ≡ Some d
first_dummy d [] bidders b bids h = absurd (omega (arith, h.each.0))
first_dummy d (a ∷ more) bidders b bids h = search rules

same_dummy : (dummy : Option ℕ) → option_eq eqb dummy dummy ≡ true
same_dummy None = refl
same_dummy (Some d) = eq-eqb d d refl

-- the leading bids with the dummy good of the first one are those of the first bidder
pub leading_bids : (bids : List PlainBid) (b : PlainBid) → slice_get bids 0 ≡ Some b → IsFirstBidder bids (take (leading b.dummy bids) bids)
leading_bids [] b e = absurd (cc)
leading_bids (x ∷ xs) b e =
    let n = leading b.dummy (x ∷ xs) in
    let is : x ≡ b = cc in
    let within : n ≤ length (x ∷ xs) = prefix_len-le-length (λ y. option_eq eqb y.dummy b.dummy) (x ∷ xs) in
    let size : length (take n (x ∷ xs)) ≡ n = length-take-le n (x ∷ xs) within in
    let first : option_eq eqb x.dummy b.dummy ≡ true = ap (λ (y : PlainBid). option_eq eqb y.dummy b.dummy) is ∙ same_dummy b.dummy in
    let some : n ≡ 1 + leading b.dummy xs = ap (λ t. cond {A = ℕ} t (1 + leading b.dummy xs) 0) first in
    record {
      some = omega arith;
      within = omega arith;
      parts = λ d bidder bidders h.
          let dummy : b.dummy ≡ Some d = ap (λ (y : PlainBid). y.dummy) (sym is) ∙ first_dummy d bidder bidders x xs h in
          let own : n ≡ length bidder = ap (λ (o : Option ℕ). leading o (x ∷ xs)) dummy ∙ leading_own d bidder bidders (x ∷ xs) h in
          let p = parts_of_bids d bidder bidders (x ∷ xs) h n own in
          (p.0, subst (λ m. AreBidsOf (d + 1) bidders (drop m (x ∷ xs))) (sym size) p.1);
    }

-- ---- the next bidder, if there is one

pub record HasNext (d : ℕ) (bidders : List (List (Atom (List ℕ)))) (bids first : List PlainBid) : Type 0 where
  pub later : List (List (Atom (List ℕ)))
  pub are : bidders ≡ offers first ∷ later
  pub rest : AreBidsOf (d + 1) later (drop (length first) bids)

pub next_bidder : (d : ℕ) (bidders : List (List (Atom (List ℕ)))) (bids first : List PlainBid) → AreBidsOf d bidders bids → IsFirstBidder bids first
    → HasNext d bidders bids first
next_bidder d [] bids first h f = search rules
next_bidder d (b ∷ bs) bids first h f = search rules

pub no_bidder : (d : ℕ) (bidders : List (List (Atom (List ℕ)))) (bids : List PlainBid) → AreBidsOf d bidders bids → length bids ≡ 0 → bidders ≡ []
no_bidder d [] bids h e = refl
no_bidder d ([] ∷ bs) bids h e = absurd (omega (arith, h.each.0))
no_bidder d ((a ∷ more) ∷ bs) bids h e = search rules

-- ---- how often a bidder is there

-- so many copies were counted, and the rest is still to come
pub record IsCounted (bidder : List (Atom (List ℕ))) (bidders : List (List (Atom (List ℕ)))) (copies : ℕ) (bids : List PlainBid) : Type 0 where
  pub dummy : ℕ
  pub later : List (List (Atom (List ℕ)))
  pub rest : AreBidsOf dummy later bids
  pub counted : copies + count_of bidder_cmp bidder later ≡ count_of bidder_cmp bidder bidders

pub one_more_counted : (bidder : List (Atom (List ℕ))) (bidders : List (List (Atom (List ℕ)))) (copies more : ℕ) (bids first : List PlainBid)
    → IsFirstBidder bids first → more ≡ copies + cond {A = ℕ} (is_eq (bidder_cmp bidder (offers first))) 1 0 → IsCounted bidder bidders copies bids
    → IsCounted bidder bidders more (drop (length first) bids)
one_more_counted bidder bidders copies more bids first f e h =
    let next = next_bidder h.dummy h.later bids first h.rest f in
    grind (arith, common_steps, sum_by-cons, next)

pub all_counted : (bidder : List (Atom (List ℕ))) (bidders : List (List (Atom (List ℕ)))) (copies : ℕ) (bids : List PlainBid) → length bids ≡ 0
    → IsCounted bidder bidders copies bids → copies ≡ count_of bidder_cmp bidder bidders
all_counted bidder bidders copies bids e h = grind (arith, common_steps, no_bidder)

-- ---- two walks side by side

module _ (xs ys : List (List (Atom (List ℕ)))) where
  -- the bidders so far were the same, and these are the bids of the others
  pub record AreAlike (left right : List PlainBid) : Type 0 where
    pub dummy : ℕ
    pub shared : List (List (Atom (List ℕ)))
    pub left_later : List (List (Atom (List ℕ)))
    pub right_later : List (List (Atom (List ℕ)))
    pub left_all : xs ≡ shared ++ left_later
    pub right_all : ys ≡ shared ++ right_later
    pub left_rest : AreBidsOf dummy left_later left
    pub right_rest : AreBidsOf dummy right_later right

  pub alike_first : (left right : List PlainBid) → AreBidsOf 0 xs left → AreBidsOf 0 ys right → AreAlike left right
  alike_first left right h k = search rules

  -- the same bidder once more
  pub alike_further : (left right one other : List PlainBid) → AreAlike left right → IsFirstBidder left one → IsFirstBidder right other
      → bidder_cmp (offers one) (offers other) ≡ Equal → AreAlike (drop (length one) left) (drop (length other) right)
  alike_further left right one other h f g e =
      let p = next_bidder h.dummy h.left_later left one h.left_rest f in
      let q = next_bidder h.dummy h.right_later right other h.right_rest g in
      let same : offers one ≡ offers other = bidder_cmp_equal (offers one) (offers other) e in
      record {
        dummy = h.dummy + 1;
        shared = h.shared ++ offers one ∷ [];
        left_later = p.later;
        right_later = q.later;
        left_all = h.left_all ∙ ap (λ (zs : List (List (Atom (List ℕ)))). h.shared ++ zs) p.are ∙ sym (append_assoc h.shared (offers one ∷ []) p.later);
        right_all = h.right_all ∙ ap (λ (zs : List (List (Atom (List ℕ)))). h.shared ++ zs) (q.are ∙ ap (λ (z : List (Atom (List ℕ))). z ∷ q.later) (sym same))
            ∙ sym (append_assoc h.shared (offers one ∷ []) q.later);
        left_rest = p.rest;
        right_rest = q.rest;
      }

  -- the least bidder that the two do not have equally often
  abbrev pub least_of_both : Option (List (Atom (List ℕ)))
  least_of_both = least_uneven bidder_cmp bidder_cmp_total bidder_cmp_equal xs ys

  module _ (left_ordered : IsOrdered bidder_cmp xs) (right_ordered : IsOrdered bidder_cmp ys) where
    ordered_behind : (prefix zs : List (List (Atom (List ℕ)))) → IsOrdered bidder_cmp (prefix ++ zs) → IsOrdered bidder_cmp zs
    ordered_behind [] zs h = h
    ordered_behind (x ∷ prefix) zs h = ordered_behind prefix zs h.1

    over : (shared one other : List (List (Atom (List ℕ)))) → xs ≡ shared ++ one → ys ≡ shared ++ other → (found : Option (List (Atom (List ℕ))))
        → (IsOrdered bidder_cmp one → IsOrdered bidder_cmp other → least_uneven bidder_cmp bidder_cmp_total bidder_cmp_equal (shared ++ one) (shared ++ other)
        ≡ found) → least_of_both ≡ found
    over shared one other e f found h = search (rules, bidder_cmp_total, bidder_cmp_equal, ordered_behind)

    -- the left one has the lesser bidder next
    pub parts_left : (left right one other : List PlainBid) → AreAlike left right → IsFirstBidder left one → IsFirstBidder right other
        → bidder_cmp (offers one) (offers other) ≡ Less → least_of_both ≡ Some (offers one)
    parts_left left right one other h f g l =
        let p = next_bidder h.dummy h.left_later left one h.left_rest f in
        let q = next_bidder h.dummy h.right_later right other h.right_rest g in
        over h.shared (offers one ∷ p.later) (offers other ∷ q.later)
        (h.left_all ∙ ap (λ (zs : List (List (Atom (List ℕ)))). h.shared ++ zs) p.are) (h.right_all
        ∙ ap (λ (zs : List (List (Atom (List ℕ)))). h.shared ++ zs) q.are) (Some (offers one))
        (λ s t. parts_at_left bidder_cmp bidder_cmp_total bidder_cmp_equal h.shared (offers one) p.later (offers other ∷ q.later) s
        (behind bidder_cmp bidder_cmp_total bidder_cmp_equal (offers one) (offers other) q.later t l))

    -- the left one alone goes on
    pub only_left : (left right one : List PlainBid) → AreAlike left right → IsFirstBidder left one → length right ≡ 0 → least_of_both ≡ Some (offers one)
    only_left left right one h f e =
        let p = next_bidder h.dummy h.left_later left one h.left_rest f in
        over h.shared (offers one ∷ p.later) []
        (h.left_all ∙ ap (λ (zs : List (List (Atom (List ℕ)))). h.shared ++ zs) p.are) (h.right_all
        ∙ ap (λ (zs : List (List (Atom (List ℕ)))). h.shared ++ zs) (no_bidder h.dummy h.right_later right h.right_rest e)) (Some (offers one))
        (λ s t. parts_at_left bidder_cmp bidder_cmp_total bidder_cmp_equal h.shared (offers one) p.later [] s tt)

    -- neither goes on
    pub neither : (left right : List PlainBid) → AreAlike left right → length left ≡ 0 → length right ≡ 0 → least_of_both ≡ None
    neither left right h e f = search (rules, over, no_bidder, none_of_same, bidder_cmp_total, bidder_cmp_equal)

-- the same walks with the sides exchanged
alike_swap : (xs ys : List (List (Atom (List ℕ)))) (left right : List PlainBid) → AreAlike xs ys left right → AreAlike ys xs right left
alike_swap xs ys left right h = search rules

reversed : (x y : List (Atom (List ℕ))) → bidder_cmp x y ≡ Greater → bidder_cmp y x ≡ Less
reversed x y e = bidder_cmp_total.antisymm y x ∙ ap ordering_reverse e

-- ---- of canonical auctions

nonempty_points : (goods : ℕ) (bidders : List (List (Atom (List ℕ)))) → All (All (IsAtom goods)) bidders
    → All (λ bidder. 0 < length bidder) (points_of_bidders goods bidders)
nonempty_points goods [] h = All-nil (λ (bidder : List (Atom (List ℕ))). 0 < length bidder)
nonempty_points goods (b ∷ bs) h =
    let later = nonempty_points goods bs (All-tail (All (IsAtom goods)) b bs h) in
    search (rules, All, points_more, All-cons, some, points_without, cases_Bool)
  where
    some : (points : List (Atom (List ℕ))) → xor_points goods b ≡ points → is_nonzero (xor_table b goods) ≡ true → 0 < length points
    some [] e t = absurd (both_ways (is_nonzero (xor_table b goods)) ((no_xor_points goods b (on_bundles goods b (All-head (All (IsAtom goods)) b bs h))).0 e)
        t)
    some (p ∷ ps) e t = omega arith

module _ (a : PlainAuction) (bids : List PlainBid) (h : HasBidders a bids) where
  bidders_again : (canonical_auction a).xor_bidders ≡ a.xor_bidders
  bidders_again = ap (λ (b : PlainAuction). b.xor_bidders) h.canonical

  pub bids_of_canonical : AreBidsOf 0 a.xor_bidders bids
  bids_of_canonical = record {
    each = recursion_from_All (λ bidder. 0 < length bidder) a.xor_bidders
        (subst (All (λ bidder. 0 < length bidder)) bidders_again
        (All-sort_by bidder_cmp (λ bidder. 0 < length bidder) (points_of_bidders a.goods a.xor_bidders)
        (nonempty_points a.goods a.xor_bidders h.facts.xor_atoms)));
    are = h.are;
  }

  pub ordered_of_canonical : IsOrdered bidder_cmp a.xor_bidders
  ordered_of_canonical = subst (IsOrdered bidder_cmp) bidders_again (ordered-sort_by bidder_cmp bidder_cmp_total (points_of_bidders a.goods a.xor_bidders))

  pub copies_in_canonical : (bidder : List (Atom (List ℕ)))
      → count_of bidder_cmp bidder a.xor_bidders ≡ count_of bidder_cmp bidder (canonical_auction a).xor_bidders
  copies_in_canonical bidder = ap (count_of bidder_cmp bidder) (sym bidders_again)

module _ (a b : PlainAuction) (all others : List PlainBid) (h : HasBidders a all) (k : HasBidders b others) where
  least_in_canonical : least_unequal_bidder a b ≡ least_of_both a.xor_bidders b.xor_bidders
  least_in_canonical = ap₂ (least_uneven bidder_cmp bidder_cmp_total bidder_cmp_equal) (bidders_again a all h) (bidders_again b others k)

  pub alike_canonical : AreAlike a.xor_bidders b.xor_bidders all others
  alike_canonical = alike_first a.xor_bidders b.xor_bidders all others (bids_of_canonical a all h) (bids_of_canonical b others k)

  module _ (left right : List PlainBid) (w : AreAlike a.xor_bidders b.xor_bidders left right) where
    pub least_left : (one other : List PlainBid) → IsFirstBidder left one → IsFirstBidder right other → bidder_cmp (offers one) (offers other) ≡ Less
        → least_unequal_bidder a b ≡ Some (offers one)
    least_left one other f g l = search (rules, least_in_canonical, parts_left, ordered_of_canonical)

    swapped : least_unequal_bidder a b ≡ least_of_both b.xor_bidders a.xor_bidders
    swapped = least_in_canonical ∙ least_uneven_swap bidder_cmp bidder_cmp_total bidder_cmp_equal a.xor_bidders b.xor_bidders

    pub least_right : (one other : List PlainBid) → IsFirstBidder left one → IsFirstBidder right other → bidder_cmp (offers one) (offers other) ≡ Greater
        → least_unequal_bidder a b ≡ Some (offers other)
    least_right one other f g l = search (rules, swapped, parts_left, ordered_of_canonical, alike_swap, reversed)

    pub least_only_left : (one : List PlainBid) → IsFirstBidder left one → length right ≡ 0 → least_unequal_bidder a b ≡ Some (offers one)
    least_only_left one f e = search (rules, least_in_canonical, only_left, ordered_of_canonical)

    pub least_only_right : (other : List PlainBid) → length left ≡ 0 → IsFirstBidder right other → least_unequal_bidder a b ≡ Some (offers other)
    least_only_right other e g = search (rules, swapped, only_left, ordered_of_canonical, alike_swap)

    pub no_least : length left ≡ 0 → length right ≡ 0 → least_unequal_bidder a b ≡ None
    no_least e f = search (rules, least_in_canonical, neither, ordered_of_canonical)

    -- where a walk is at its end
    pub least_at_end : (one other : Option (List PlainBid)) → MatchOption one (length left ≡ 0) (λ x. IsFirstBidder left x)
        → MatchOption other (length right ≡ 0) (λ y. IsFirstBidder right y) → (length left ≡ 0) ⊎ (length right ≡ 0)
        → MatchOption (option_or one other) (least_unequal_bidder a b ≡ None) (λ x. least_unequal_bidder a b ≡ Some (offers x))
    least_at_end None None e f ended = no_least e f
    least_at_end None (Some y) e g ended = least_only_right y e g
    least_at_end (Some x) None f e ended = least_only_left x f e
    least_at_end (Some x) (Some y) f g ended = search rules

  -- the bidder as it is named, with its numbers
  pub numbers_named : (named bidder : List (Atom (List ℕ))) (one other : ℕ) → named ≡ bidder → one ≡ count_of bidder_cmp bidder a.xor_bidders
      → other ≡ count_of bidder_cmp bidder b.xor_bidders → least_unequal_bidder a b ≡ Some bidder
      → InXor named one other ≡ xor_difference a b (least_unequal_bidder a b)
  numbers_named named bidder one other e f g least = search (rules, copies_in_canonical)
