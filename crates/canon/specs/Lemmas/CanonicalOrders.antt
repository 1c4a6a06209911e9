-- The bids of each bidder of a canonical auction are in the order of their bundles, and its XOR bidders never fall.
use Rattle.std.proofs.Common.{rules, ◌≡◌, ℕ, List, ap, subst}
use Rattle.std.specs.Prelude.{All}
use Rattle.std.specs.List.{filter}
use Rattle.std.proofs.lemmas.List.Elements.{All-map}
use Rattle.valuation.specs.declared.atom.Atom.{Atom}
use Rattle.valuation.specs.Auctions.{PlainAuction}
use Rattle.valuation.specs.Lemmas.Orders.{bidder_cmp_total}
use Rattle.valuation.specs.Lemmas.Sorting.{IsOrdered, All-sort_by, ordered-sort_by}
use Rattle.valuation.specs.Orders.{bidder_cmp}
use Rattle.valuation.specs.Tables.{xor_table, is_nonzero}
use Rattle.valuation.specs.Values.{xor_value}
use Rattle.prune.specs.InOrder.{IsInOrder}
use Rattle.prune.specs.Lemmas.Lists.{All-from_Contains}
use Rattle.prune.specs.Lemmas.Points.{points_where-in_order}
use Rattle.prune.specs.Points.{is_xor_point, xor_points}
use Rattle.canon.specs.Canonical.{IsCanonical, canonical_auction, points_of_bidders}

module _ (a : PlainAuction) (canonical : IsCanonical a) where
  bidders_again : (canonical_auction a).xor_bidders ≡ a.xor_bidders
  bidders_again = ap (λ (b : PlainAuction). b.xor_bidders) canonical

  pub or_atoms_in_order : IsInOrder a.or_atoms
  or_atoms_in_order = search (rules, points_where-in_order)

  pub bidders_ordered : IsOrdered bidder_cmp a.xor_bidders
  bidders_ordered = subst (IsOrdered bidder_cmp) bidders_again (ordered-sort_by bidder_cmp bidder_cmp_total (points_of_bidders a.goods a.xor_bidders))

  points_in_order : (bidders : List (List (Atom (List ℕ)))) → All IsInOrder (points_of_bidders a.goods bidders)
  points_in_order bidders =
      let nonzero = filter (λ b. is_nonzero (xor_table b a.goods)) bidders in
      All-map IsInOrder (xor_points a.goods) nonzero
      (All-from_Contains (λ b. IsInOrder (xor_points a.goods b)) nonzero
      (λ b c. points_where-in_order (is_xor_point b) (xor_value b) a.goods))

  pub each_in_order : All IsInOrder a.xor_bidders
  each_in_order = subst (All IsInOrder) bidders_again (All-sort_by bidder_cmp IsInOrder (points_of_bidders a.goods a.xor_bidders)
      (points_in_order a.xor_bidders))
