-- The bidders in excess. The idea: along the bidders from their end on, those in excess have each bidder as often as these bidders
-- have it more often than the others.
use Rattle.analysis.proofs.Common.{rules, ◌≡◌, ℕ, zero, suc, ◌+◌, ◌-◌, ◌<◌, ◌≤◌, Bool, true, false, cond, ◌⊎◌, ⊎_elim, List, ◌∷◌, length, map, drop, sym, ap}
use Rattle.analysis.proofs.Common.{◌∙◌, subst, arith, Some, nat_cmp, refl, All, Contains, nat_cmp-IsAntisymmetric, filter, range_with_len, is_eq, cases_Bool}
use Rattle.analysis.proofs.Common.{ltb-true, nat_cmp_total, sum_by-cons, sum_by-take-drop, sum_by-drop_more, Atom, bidder_cmp, count_of, bidder_cmp_equal}
use Rattle.analysis.proofs.Common.{Contains-filter_parts, All-from_Contains, counted_is_there, PlainBidderChange, AreBidderChanges, bidder_at, is_excess}
use Rattle.analysis.proofs.Common.{excess_bidders, lefts_of, rights_of, drop-length, ltb-false}
use Rattle.analysis.proofs.Comparing.LawsLists.{Contains-filter_map, sum_by-map, there_is_counted, sum_of_same_counts}
use Rattle.canon.specs.Lemmas.Finding.{equal_from}

-- ---- how often a bidder is in excess

module _ (bidders others : List (List (Atom (List ℕ)))) (bidder : List (Atom (List ℕ))) where
  abbrev times : List (List (Atom (List ℕ))) → ℕ
  times list = count_of bidder_cmp bidder list

  -- one if the bidder of this index is the bidder
  abbrev is_here : ℕ → ℕ
  is_here index = cond (is_eq (bidder_cmp bidder (bidder_at bidders index))) 1 0

  here_cases : (index : ℕ) → (is_here index ≡ 0)
      ⊎ ((is_here index ≡ 1) × ((list : List (List (Atom (List ℕ)))) → times list ≡ count_of bidder_cmp (bidder_at bidders index) list))
  here_cases index = ⊎_elim
      (λ (t : is_eq (bidder_cmp bidder (bidder_at bidders index)) ≡ true).
      let same : bidder ≡ bidder_at bidders index = bidder_cmp_equal bidder (bidder_at bidders index) (equal_from _ t) in
      search rules)
      (search rules)
      (cases_Bool (is_eq (bidder_cmp bidder (bidder_at bidders index))))

  -- from the indices behind an index to those from it on
  excess_here : (index : ℕ) (behind : List ℕ) → times (drop index bidders) ≡ is_here index + times (drop (index + 1) bidders)
      → times (map (bidder_at bidders) behind) ≡ times (drop (index + 1) bidders) - times others → (excess : Bool) → is_excess bidders others index ≡ excess
      → times (map (bidder_at bidders) (cond excess (index ∷ behind) behind)) ≡ times (drop index bidders) - times others
  excess_here index behind all later true e =
      let more : count_of bidder_cmp (bidder_at bidders index) others < count_of bidder_cmp (bidder_at bidders index) (drop index bidders) = ltb-true _ _ e in
      let front = sum_by-cons (λ b. cond {A = ℕ} (is_eq (bidder_cmp bidder b)) 1 0) (bidder_at bidders index) (map (bidder_at bidders) behind) in
      ⊎_elim (λ (none : is_here index ≡ 0). omega arith)
      (search rules)
      (here_cases index)
  excess_here index behind all later false e =
      let fewer : count_of bidder_cmp (bidder_at bidders index) (drop index bidders) ≤ count_of bidder_cmp (bidder_at bidders index) others = ltb-false _ _ e in
      ⊎_elim (λ (none : is_here index ≡ 0). omega arith)
      (search rules)
      (here_cases index)

  excess_from : (n index : ℕ) → index + n ≡ length bidders
      → times (map (bidder_at bidders) (filter (is_excess bidders others) (range_with_len index n))) ≡ times (drop index bidders) - times others
  excess_from zero index e = let all : index ≡ length bidders = omega arith in search (rules, drop-length)
  excess_from (suc n) index e = excess_here index (filter (is_excess bidders others) (range_with_len (index + 1) n))
      (search (rules, sum_by-drop_more))
      (excess_from n (index + 1) (omega arith)) (is_excess bidders others index) refl

  -- as often as these bidders have it more often than the others
  pub excess_counted : count_of bidder_cmp bidder (map (bidder_at bidders) (excess_bidders bidders others))
      ≡ count_of bidder_cmp bidder bidders - count_of bidder_cmp bidder others
  excess_counted = excess_from (length bidders) 0 (omega arith)

-- ---- the bidders of the changes

-- a bidder in excess is more often among these
pub excess_is_more : (bidders others : List (List (Atom (List ℕ)))) (index : ℕ) → Contains (excess_bidders bidders others) index
    → count_of bidder_cmp (bidder_at bidders index) others < count_of bidder_cmp (bidder_at bidders index) bidders
excess_is_more bidders others index c =
    let bidder = bidder_at bidders index in
    let excess = (Contains-filter_parts (is_excess bidders others) (range_with_len 0 (length bidders)) index c).1 in
    let more : count_of bidder_cmp bidder others < count_of bidder_cmp bidder (drop index bidders) = ltb-true _ _ excess in
    let parts = sum_by-take-drop (λ b. cond {A = ℕ} (is_eq (bidder_cmp bidder b)) 1 0) bidders index in
    omega arith

module _ (left right : List (List (Atom (List ℕ)))) (changes : List PlainBidderChange) (are : AreBidderChanges left right changes) where
  pub left_is_more : (c : PlainBidderChange) (index : ℕ) → Contains changes c → c.left ≡ Some index
      → count_of bidder_cmp (bidder_at left index) right < count_of bidder_cmp (bidder_at left index) left
  left_is_more c index there e = excess_is_more left right index
      (subst (λ (indices : List ℕ). Contains indices index) are.lefts (search (rules, Contains-filter_map)))

  pub right_is_more : (c : PlainBidderChange) (index : ℕ) → Contains changes c → c.right ≡ Some index
      → count_of bidder_cmp (bidder_at right index) left < count_of bidder_cmp (bidder_at right index) right
  right_is_more c index there e = let some : 0 < count_of nat_cmp index (rights_of changes) =
      search (rules, there_is_counted, nat_cmp_total, Contains-filter_map) in
      excess_is_more right left index
      (counted_is_there nat_cmp nat_cmp_total nat_cmp-IsAntisymmetric index (excess_bidders right left) (omega arith))

  -- so it is no bidder of both
  pub none_on_both : All (λ (c : PlainBidderChange). (i j : ℕ) → c.left ≡ Some i → c.right ≡ Some j → bidder_at left i ≡ bidder_at right j → ⊥) changes
  none_on_both =
      All-from_Contains (λ (c : PlainBidderChange). (i j : ℕ) → c.left ≡ Some i → c.right ≡ Some j → bidder_at left i ≡ bidder_at right j → ⊥) changes
      (λ c there i j on_left on_right same.
      let more = left_is_more c i there on_left in
      let fewer = right_is_more c j there on_right in
      search rules)

  -- how often the changes have a bidder
  pub lefts_counted : (bidder : List (Atom (List ℕ))) → count_of bidder_cmp bidder (map (bidder_at left) (lefts_of changes))
      ≡ count_of bidder_cmp bidder left - count_of bidder_cmp bidder right
  lefts_counted bidder = ap (λ (indices : List ℕ). count_of bidder_cmp bidder (map (bidder_at left) indices)) are.lefts ∙ excess_counted left right bidder

  pub rights_counted : (bidder : List (Atom (List ℕ))) → count_of bidder_cmp bidder (map (bidder_at right) (rights_of changes))
      ≡ count_of bidder_cmp bidder right - count_of bidder_cmp bidder left
  rights_counted bidder =
      let test = λ (b : List (Atom (List ℕ))). cond {A = ℕ} (is_eq (bidder_cmp bidder b)) 1 0 in
      sum_by-map test (bidder_at right) (rights_of changes)
      ∙ sum_of_same_counts (λ i. test (bidder_at right i)) (rights_of changes) (excess_bidders right left) are.rights
      ∙ sym (sum_by-map test (bidder_at right) (excess_bidders right left)) ∙ excess_counted right left bidder

  -- without them a bidder is on both sides as often as on the side that has it less often
  pub same_without_changes : (bidder : List (Atom (List ℕ)))
      → count_of bidder_cmp bidder left - count_of bidder_cmp bidder (map (bidder_at left) (lefts_of changes))
      ≡ count_of bidder_cmp bidder right - count_of bidder_cmp bidder (map (bidder_at right) (rights_of changes))
  same_without_changes bidder = let one = lefts_counted bidder in let other = rights_counted bidder in omega arith
