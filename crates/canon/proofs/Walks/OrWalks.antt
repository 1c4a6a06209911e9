-- The first change of the OR bids of two canonical files is the first difference of their OR values.
use Rattle.canon.proofs.Common.{rules, ◌≡◌, ℕ, List, [], ◌∷◌, map, refl, sym, ap, ap₂, ◌∙◌, subst, None, OnErr, All-head, PlainBid, Atom, PlainAuction}
use Rattle.canon.proofs.Common.{atom_of, on_bundles, find_none, offers, bid_from, InOr, first_unequal_bundle, or_difference, HasOrBids, changes_of, side_at}
use Rattle.canon.proofs.Common.{first_change_found, or_side, same_bids, side_of_change, ArePoints, are_unequal, equal_test, in_order, PlainChange}
use Rattle.canon.proofs.Common.{IsPriceChange, ArePriceChanges, Side, Result, Ok, Err}
use Rattle.canon.proofs.Walks.PriceWalks.{are_all}

-- a fact that holds in any case
pub on_err : {T E P : Type 0} (r : Result T E) → P → OnErr r P
on_err (Ok x) p = tt
on_err (Err y) p = p

again_atoms : (atoms : List (Atom (List ℕ))) → map atom_of (map (bid_from None) atoms) ≡ atoms
again_atoms [] = refl
again_atoms (a ∷ rest) = ap (λ (zs : List (Atom (List ℕ))). a ∷ zs) (again_atoms rest)

pub offers_are : (a : PlainAuction) (bids : List PlainBid) → HasOrBids a bids → offers bids ≡ a.or_atoms
offers_are a bids h = ap (map atom_of) h.are ∙ again_atoms a.or_atoms

points_of : (a : PlainAuction) (bids : List PlainBid) → HasOrBids a bids → ArePoints a.goods a.or_atoms
points_of a bids h = record { on = on_bundles a.goods a.or_atoms h.facts.or_atoms; points = ap (λ (c : PlainAuction). c.or_atoms) h.canonical }

-- of a walk that begins at these bids
module _ (left right begin_left begin_right : List PlainBid) (l : begin_left ≡ left) (r : begin_right ≡ right) (a b : PlainAuction) (h : HasOrBids a left)
    (k : HasOrBids b right) where
  all_changes : (changes : List PlainChange) → changes_of (offers begin_left) (offers begin_right) ≡ changes → ArePriceChanges a.or_atoms b.or_atoms changes
  all_changes changes e = subst (ArePriceChanges a.or_atoms b.or_atoms)
      (ap₂ changes_of (sym (ap offers l ∙ offers_are a left h)) (sym (ap offers r ∙ offers_are b right k)) ∙ e) (search (rules, are_all, in_order, points_of))

  pub none_of_auctions : changes_of (offers begin_left) (offers begin_right) ≡ [] → first_unequal_bundle a b ≡ None
  none_of_auctions none =
      let atoms : a.or_atoms ≡ b.or_atoms = search (rules, same_bids, in_order, points_of, all_changes) in
      search (rules, find_none, are_unequal, equal_test)

  pub first_of_auctions : (c : PlainChange) (rest : List PlainChange) → changes_of (offers begin_left) (offers begin_right) ≡ c ∷ rest → a.goods ≡ b.goods
      → or_difference a b (first_unequal_bundle a b) ≡ InOr c.bundle (side_at c.left c.right) (side_at c.right c.left)
  first_of_auctions c rest first e =
      let own = points_of a left h in
      let others = subst (λ (n : ℕ). ArePoints n b.or_atoms) (sym e) (points_of b right k) in
      let all = all_changes (c ∷ rest) first in
      let change = All-head (IsPriceChange a.or_atoms b.or_atoms) c rest all.each in
      ap (or_difference a b) (first_change_found a.goods a.or_atoms b.or_atoms own others c rest all) ∙ ap₂ (λ (x y : Side). InOr c.bundle x y)
      (side_of_change a.goods a.or_atoms b.or_atoms own others c.bundle c.left c.right (sym change.on_left) (sym change.on_right) change.differ)
      (ap (λ (n : ℕ). or_side n b.or_atoms a.or_atoms c.bundle) (sym e)
      ∙ side_of_change a.goods b.or_atoms a.or_atoms others own c.bundle c.right c.left (sym change.on_right) (sym change.on_left)
      (λ d. change.differ (sym d)))
