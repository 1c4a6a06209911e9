-- The bidders that wait for a partner: each is there or is taken, and what is taken is the only one that is gone.
use Rattle.analysis.proofs.Common.{rules, common_steps, ◌≡◌, ◌==◌, ℕ, ◌+◌, ◌<◌, ◌≤◌, Bool, true, not, cond, ⊎_elim, List, [], ◌∷◌, ◌++◌, map, slice_get, refl}
use Rattle.analysis.proofs.Common.{sym, ap, subst, arith, Option, Some, None, All, Contains, IfSome, is_some, nat_cmp-IsAntisymmetric, filter, flat_map, is_eq}
use Rattle.analysis.proofs.Common.{nat_cmp, nat_cmp_total, eq-eqb, ne_eqb, All-cons, All-contains, All-nil, sum_by-append, sum_by-cons, AreAbove, IsRising}
use Rattle.analysis.proofs.Common.{Atom, Contains-cons_cases, count_of, sort_by, All-from_Contains, Contains-filter_parts, Contains-head, Contains-nil, rarer}
use Rattle.analysis.proofs.Common.{counted_is_there, bidder_at, partner_of, partners_of, waiting_after, without_partner, price_on, TakesPartner}
use Rattle.analysis.proofs.Comparing.LawsLists.{above_all, all_pass, there_is_counted}

-- whether the index is this one
abbrev one_if : ℕ → ℕ → ℕ
one_if i index = cond {A = ℕ} (is_eq (nat_cmp i index)) 1 0

count-cons : (i index : ℕ) (xs : List ℕ) → count_of nat_cmp i (index ∷ xs) ≡ one_if i index + count_of nat_cmp i xs
count-cons i index xs = sum_by-cons (λ y. cond {A = ℕ} (is_eq (nat_cmp i y)) 1 0) index xs

-- the only one that is gone
pub taken_counted : (before after : List ℕ) (index : ℕ) → TakesPartner before after (Some index) → (i : ℕ)
    → count_of nat_cmp i before ≡ count_of nat_cmp i (index ∷ after)
taken_counted before after index h i = grind (arith, common_steps, sum_by-append, count-cons)

-- ---- the partner is one that waits

apart_above : (x : ℕ) (xs : List ℕ) → AreAbove x xs → All (λ y. not (y == x) ≡ true) xs
apart_above x [] a = All-nil (λ y. not (y == x) ≡ true)
apart_above x (y ∷ ys) a = All-cons (λ y. not (y == x) ≡ true) y ys (ap not (ne_eqb y x (λ e. let up = a.0 in absurd (omega arith)))) (apart_above x ys a.1)

takes_one : (i : ℕ) (xs : List ℕ) → IsRising xs → Contains xs i → TakesPartner xs (filter (λ j. not (j == i)) xs) (Some i)
takes_one i [] r c = absurd (Contains-nil i c)
takes_one i (x ∷ xs) r c = ⊎_elim
    (search (rules, eq-eqb, all_pass, apart_above))
    (λ (d : Contains xs i).
    let up : x < i = All-contains (λ y. x < y) xs i (above_all x xs r.0) d in
    let rest = takes_one i xs r.1 d in (
      x ∷ rest.0,
      rest.1,
      ap (λ (zs : List ℕ). x ∷ zs) rest.2,
      search (rules, ne_eqb),
    ))
    (Contains-cons_cases x xs i c)

one_of_some : (has : List ℕ → ℕ → Bool) (waiting : List ℕ) (bundles : List (List ℕ)) (i : ℕ)
    → slice_get (flat_map (λ b. filter (has b) waiting) bundles) 0 ≡ Some i → Contains waiting i
one_of_some has waiting [] i e = absurd (cc)
one_of_some has waiting (b ∷ bundles) i e = at (filter (has b) waiting) refl (one_of_some has waiting bundles i)
  where
    at : (xs : List ℕ) → filter (has b) waiting ≡ xs → (slice_get (flat_map (λ b. filter (has b) waiting) bundles) 0 ≡ Some i → Contains waiting i)
        → Contains waiting i
    at [] none later = later (search rules)
    at (x ∷ xs) some later = let is : x ≡ i = search (rules, first) in
        subst (Contains waiting) is
        (Contains-filter_parts (has b) waiting x (subst (λ (ys : List ℕ). Contains ys x) (sym some) (Contains-head x xs))).0
      where
        first : (m n : ℕ) → Some m ≡ Some n → m ≡ n
        first m n f = cc

-- it is the only one that is gone
pub taken : (right : List (List (Atom (List ℕ)))) (excess waiting : List ℕ) (bidder : List (Atom (List ℕ))) → IsRising waiting
    → TakesPartner waiting (without_partner (partner_of right excess waiting bidder) waiting) (partner_of right excess waiting bidder)
taken right excess waiting bidder r = at (partner_of right excess waiting bidder) refl
  where
    at : (p : Option ℕ) → partner_of right excess waiting bidder ≡ p → TakesPartner waiting (without_partner p waiting) p
    at None e = refl
    at (Some i) e =
        takes_one i waiting r
        (one_of_some (λ b j. is_some (price_on (bidder_at right j) b)) waiting (sort_by (rarer right excess) (map (λ a. a.bundle) bidder)) i e)

-- one more left bidder
pub waiting_more : (right : List (List (Atom (List ℕ)))) (excess waiting : List ℕ) (bidders : List (List (Atom (List ℕ)))) (bidder : List (Atom (List ℕ)))
    → waiting_after right excess waiting (bidders ++ bidder ∷ [])
    ≡ without_partner (partner_of right excess (waiting_after right excess waiting bidders) bidder) (waiting_after right excess waiting bidders)
waiting_more right excess waiting [] bidder = refl
waiting_more right excess waiting (b ∷ bidders) bidder = waiting_more right excess (without_partner (partner_of right excess waiting b) waiting) bidders bidder

pub partners_more : (right : List (List (Atom (List ℕ)))) (excess waiting : List ℕ) (bidders : List (List (Atom (List ℕ)))) (bidder : List (Atom (List ℕ)))
    → partners_of right excess waiting (bidders ++ bidder ∷ [])
    ≡ partners_of right excess waiting bidders ++ partner_of right excess (waiting_after right excess waiting bidders) bidder ∷ []
partners_more right excess waiting [] bidder = refl
partners_more right excess waiting (b ∷ bidders) bidder =
    ap (λ (ps : List (Option ℕ)). partner_of right excess waiting b ∷ ps)
    (partners_more right excess (without_partner (partner_of right excess waiting b) waiting) bidders bidder)

-- ---- those that wait are in order

above_without : (x index : ℕ) (lower higher : List ℕ) → AreAbove x (lower ++ index ∷ higher) → AreAbove x (lower ++ higher)
above_without x index [] higher a = a.1
above_without x index (y ∷ lower) higher a = (a.0, above_without x index lower higher a.1)

rising_without : (index : ℕ) (lower higher : List ℕ) → IsRising (lower ++ index ∷ higher) → IsRising (lower ++ higher)
rising_without index [] higher r = r.1
rising_without index (x ∷ lower) higher r = (above_without x index lower higher r.0, rising_without index lower higher r.1)

pub still_rise : (before after : List ℕ) (taken : Option ℕ) → TakesPartner before after taken → IsRising before → IsRising after
still_rise before after None h r = subst IsRising (sym h) r
still_rise before after (Some index) h r = subst IsRising (sym h.3) (rising_without index h.0 h.1 (subst IsRising h.2 r))

-- ---- what holds of all that wait

-- what is there no more often has what holds of all
pub All-counted : (P : ℕ → Type 0) (xs ys : List ℕ) → ((i : ℕ) → count_of nat_cmp i ys ≤ count_of nat_cmp i xs) → All P xs → All P ys
All-counted P xs ys less h = All-from_Contains P ys (λ y c.
    let some = there_is_counted nat_cmp nat_cmp_total y ys c in
    All-contains P xs y h (counted_is_there nat_cmp nat_cmp_total nat_cmp-IsAntisymmetric y xs (omega arith)))

pub taken_has : (P : ℕ → Type 0) (before after : List ℕ) (taken : Option ℕ) → TakesPartner before after taken → All P before → IfSome taken P
taken_has P before after None h all = tt
taken_has P before after (Some index) h all =
    let some = there_is_counted nat_cmp nat_cmp_total index (index ∷ after) (Contains-head index after) in
    let same = taken_counted before after index h index in
    All-contains P before index all (counted_is_there nat_cmp nat_cmp_total nat_cmp-IsAntisymmetric index before (omega arith))
