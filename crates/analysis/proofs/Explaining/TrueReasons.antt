-- The reason of each bid is true. A best bid is kept as a point, or what the points below its goods have reaches its price.
use Rattle.analysis.proofs.Common.{rules, ◌≡◌, ℕ, ◌<◌, Bool, true, false, List, length, map, Option, Some, None, refl, sym, ap, ◌∙◌, subst, arith, ◌≤◌, eqb}
use Rattle.analysis.proofs.Common.{is_none, leb, nat_cmp, Contains, IfSome, is_some, unwrap_or, both_ways, eq-eqb, eqb-true, leb-true, ne_eqb, nat_cmp_total}
use Rattle.analysis.proofs.Common.{get_or-map-range_with_len, length-map-range_with_len, PlainBid, PlainFile, IsDummyBelow, IsPlainFile, Atom, Bounded, atom_of}
use Rattle.analysis.proofs.Common.{atom_at, sort_by, permutation-sort_by, sorted-sort_by, IsPackingFor, indices_below, found_some, is_below, bid_at, IsBestFor}
use Rattle.analysis.proofs.Common.{Zero, Same, Explains, IsKeptAs, best_reason, kept_number, or_reason, point_number, points_of, reasons_of, xor_reason}
use Rattle.analysis.proofs.Common.{IsDecided, is_kept_atom, IsBestBid, best_alike, or_fate-reaches, indices_below-within, IsNoPoint}
use Rattle.prune.specs.Fates.{or_fate, xor_fate}
use Rattle.analysis.specs.Reasons.{reason_of}
use Rattle.analysis.proofs.Explaining.BestNumbers.{best_number_for, best_there}
use Rattle.analysis.proofs.Explaining.Deciding.{explained, priced_within}
use Rattle.analysis.proofs.Explaining.KeptBids.{bid_here, kept_is_point}
use Rattle.analysis.proofs.Explaining.KeptPoints.{best_is_there, bidder_is_kept, kept_if_point, kept_number_is, point_if_kept, point_is_kept, point_number_is}
use Rattle.analysis.proofs.Explaining.Packings.{IsPointOf, of_packing}

-- ---- by cases

pub reason_zero : (f : PlainFile) (i : ℕ) → (bid_at f i).price ≡ 0 → reason_of f i ≡ Zero
unfolding reason_of
reason_zero f i e = let t : eqb (bid_at f i).price 0 ≡ true = eq-eqb (bid_at f i).price 0 e in simp t

pub best_alike_is : (f : PlainFile) (i j : ℕ) → IsBestFor f i j → best_alike f i ≡ j
best_alike_is f i j h = ap (λ (o : Option ℕ). unwrap_or o i) (best_number_for f i j h)

pub reason_same : (f : PlainFile) (i j : ℕ) → 0 < (bid_at f i).price → IsBestFor f i j → eqb j i ≡ false → reason_of f i ≡ Same j
unfolding reason_of
reason_same f i j positive h differ = search (rules, ne_eqb, best_alike_is)

pub reason_best : (f : PlainFile) (i : ℕ) → 0 < (bid_at f i).price → IsBestFor f i i → reason_of f i ≡ best_reason f i (bid_at f i).dummy
unfolding reason_of
reason_best f i positive h = search (rules, ne_eqb, eq-eqb, best_alike_is)

-- ---- what makes a best bid superfluous

pub packing_from : (points : List (Atom (List ℕ))) (a : Atom (List ℕ)) (indices : List ℕ) → or_fate Bounded points a ≡ Some indices
    → IsPackingFor points a.bundle a.price indices
packing_from points a indices e =
    subst (λ (fate : Option (List ℕ)). IfSome fate (λ ps. IsPackingFor points a.bundle a.price ps)) e (or_fate-reaches Bounded points a)

-- a point below the bundle, whose price is as high
pub record IsPointBelow (points : List (Atom (List ℕ))) (a : Atom (List ℕ)) (index : ℕ) : Type 0 where
  pub within : index < length points
  pub below : is_below (atom_at points index).bundle a.bundle ≡ true
  pub enough : a.price ≤ (atom_at points index).price

pub inside_from : (points : List (Atom (List ℕ))) (a : Atom (List ℕ)) (index : ℕ) → xor_fate points a ≡ Some index → IsPointBelow points a index
unfolding xor_fate
inside_from points a index e =
    let test : ℕ → Bool = λ p. leb a.price (atom_at points p).price in
    let found = subst (λ (fate : Option ℕ). IfSome fate (λ p. Contains (indices_below points a.bundle) p × (test p ≡ true))) e
    (found_some test (indices_below points a.bundle)) in
    let there = indices_below-within points a.bundle index found.0 in
    record { within = there.0; below = there.1; enough = leb-true a.price (atom_at points index).price found.1 }

-- ---- a best bid

module _ (f : PlainFile) (is : IsPlainFile f) (i : ℕ) (within : i < length f.bids) (bid : IsBestBid f i) where
  abbrev own : PlainBid
  own = bid_at f i

  below : (o : Option ℕ) → own.dummy ≡ o → IsDummyBelow f.dummy o
  below o e = subst (IsDummyBelow f.dummy) e (bid_here f is i within).dummy

  there : Contains (points_of f own.dummy) (atom_of own) → (k : ℕ) × IsKeptAs f i k
  there c =
      let k = point_is_kept f own.dummy (bidder_is_kept f is i within bid.positive own.dummy refl) (atom_of own) c in
      (k.0, record { bid = bid; is = k.1 })

  keep : is_kept_atom f own.dummy (atom_of own) ≡ true → IsKeptAs f i (kept_number f i)
  keep t = let k = there (search (rules, point_if_kept, below, best_is_there, within)) in subst (IsKeptAs f i) (sym (kept_number_is f is i k.0 k.1)) k.1

  no_point : is_kept_atom f own.dummy (atom_of own) ≡ false → IsNoPoint f i
  no_point t k e =
      both_ways (is_kept_atom f own.dummy (atom_of own)) t
      (kept_if_point f is own.dummy (below own.dummy refl) (atom_of own) (kept_is_point f k own e).1)

  fate_at : (o : Option ℕ) → own.dummy ≡ o → (b : Bool) → is_kept_atom f o (atom_of own) ≡ b → is_kept_atom f own.dummy (atom_of own) ≡ b
  fate_at o e b t = ap (λ (p : Option ℕ). is_kept_atom f p (atom_of own)) e ∙ t

  point_at : (o : Option ℕ) → own.dummy ≡ o → (p : ℕ) → p < length (points_of f o) → IsPointOf f o (atom_at (points_of f o) p) (point_number f o p)
  point_at o e p l = point_number_is f is o (bidder_is_kept f is i within bid.positive o e) p l

  some_good : (o : Option ℕ) → own.dummy ≡ o → (p : ℕ) → p < length (points_of f o) → 0 < length (atom_at (points_of f o) p).bundle
  some_good o e p l = let at = point_at o e p l in search (rules, bid_here, priced_within)

  or_decided : own.dummy ≡ None → (r : Option (List ℕ)) → or_fate Bounded (points_of f None) (atom_of own) ≡ r → IsDecided f i (or_reason f i r)
  or_decided none None e = keep (fate_at None none true (ap is_none e))
  or_decided none (Some indices) e =
      let points = points_of f None in
      let packing = packing_from points (atom_of own) indices e in
      let number : ℕ → ℕ = point_number f None in
      let js = sort_by nat_cmp (map number indices) in
      let r = of_packing f own.goods own.price points number indices js (point_at None none) (some_good None none) packing
      (permutation-sort_by nat_cmp (map number indices)) (sorted-sort_by nat_cmp nat_cmp_total (map number indices)) in
      record {
        bid = bid;
        no_point = no_point (fate_at None none false (ap is_none e));
        or = none;
        rising = r.rising;
        each = r.each;
        apart = r.apart;
        enough = r.enough;
      }

  xor_decided : (d : ℕ) → own.dummy ≡ Some d → (r : Option ℕ) → xor_fate (points_of f (Some d)) (atom_of own) ≡ r → IsDecided f i (xor_reason f d i r)
  xor_decided d some None e = keep (fate_at (Some d) some true (ap is_none e))
  xor_decided d some (Some index) e = let points = points_of f (Some d) in
      let found = inside_from points (atom_of own) index e in
      let at = point_at (Some d) some index found.within in
      let j = point_number f (Some d) index in
      let price : (bid_at f j).price ≡ (atom_at points index).price = ap (λ (b : PlainBid). b.price) at.is in
      record {
        bid = bid;
        no_point = no_point (fate_at (Some d) some false (ap is_none e));
        xor = ap is_some some;
        bidder = ap (λ (b : PlainBid). b.dummy) at.is ∙ sym some;
        point = at.point;
        below = ap (λ (b : PlainBid). is_below b.goods own.goods) at.is ∙ found.below;
        enough = omega arith;
      }

  pub best_decided : (o : Option ℕ) → own.dummy ≡ o → IsDecided f i (best_reason f i o)
  best_decided None e = or_decided e (or_fate Bounded (points_of f None) (atom_of own)) refl
  best_decided (Some d) e = xor_decided d e (xor_fate (points_of f (Some d)) (atom_of own)) refl

-- ---- each bid

pub reason_is_decided : (f : PlainFile) → IsPlainFile f → (i : ℕ) → i < length f.bids → IsDecided f i (reason_of f i)
reason_is_decided f is i l = search (rules, reason_zero, best_there, eqb-true, reason_best, best_decided, reason_same)

pub reasons_explain : (f : PlainFile) → IsPlainFile f → Explains f (reasons_of f)
reasons_explain f is = explained f (reasons_of f) is (length-map-range_with_len (reason_of f) 0 (length f.bids))
    (search (rules, get_or-map-range_with_len, reason_is_decided))
