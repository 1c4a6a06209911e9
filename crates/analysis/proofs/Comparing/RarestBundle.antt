-- The rarest bundle of a left bidder on which a right bidder waits: it is found bundle by bundle, and the partner is there. The idea:
-- of the bundles in order of rarity it is the first on which one waits.
use Rattle.analysis.proofs.Common.{rules, ◌≡◌, ◌≢◌, ◌<◌, ◌≤◌, ℕ, false, List, [], ◌∷◌, ◌++◌, length, map, Option, Some, None, Ordering, Less, Equal, Greater}
use Rattle.analysis.proofs.Common.{slice_get, refl, sym, ap, ap₂, ◌∙◌, subst, ⊎_elim, All, Contains, MatchOption, if◌then◌else◌, IsTotalOrder, flat_map, is_gt}
use Rattle.analysis.proofs.Common.{ordering_then, ordering_reverse, cases_lt, lt-ltb, le-ltb, nat_cmp_total, on_total, then_total, All-contains, All-head, Atom}
use Rattle.analysis.proofs.Common.{All-from_recursion, All-push, All-tail, All-weaker, Contains-append_left, Contains-permutation, bundle_cmp, bundle_cmp_equal}
use Rattle.analysis.proofs.Common.{bundle_cmp_refl, bundle_cmp_total, nat_cmp-lt, nat_cmp-refl, Contains-cons_cases, All-sort_by, IsOrdered, sort_by, rarer}
use Rattle.analysis.proofs.Common.{permutation-sort_by, Contains-nil, bidders_on, partner_of, Candidate, IsCandidate, IsRarestIfAny, rarer_candidate, IsRarest}
use Rattle.analysis.proofs.Common.{Contains-push, nat_cmp-gt, ordered-sort_by}

module _ (right : List (List (Atom (List ℕ)))) (excess : List ℕ) where
  abbrev count : List ℕ → ℕ
  count bundle = length (bidders_on right excess bundle)

  rarer_total : IsTotalOrder (rarer right excess)
  rarer_total = then_total (on_total count nat_cmp_total) bundle_cmp_total

  rarer_equal : (one other : List ℕ) → rarer right excess one other ≡ Equal → one ≡ other
  rarer_equal one other e = search (rules, bundle_cmp_equal)

  fewer_is_rarer : (one other : List ℕ) → count one < count other → is_gt (rarer right excess one other) ≡ false
  fewer_is_rarer one other l = ap (λ o. is_gt (ordering_then o (bundle_cmp one other))) (nat_cmp-lt (count one) (count other) l)

  first_is_rarer : (one other : List ℕ) → count one ≤ count other → is_gt (bundle_cmp one other) ≡ false → is_gt (rarer right excess one other) ≡ false
  first_is_rarer one other l f = search (rules, fewer_is_rarer, nat_cmp-refl)

  not_more : (one other : List ℕ) → is_gt (rarer right excess one other) ≡ false → count one ≤ count other
  not_more one other e = search (rules, nat_cmp-gt)

  module _ (waiting : List ℕ) where
    -- no bundle on which one waits is rarer
    abbrev IsFirst : List ℕ → List ℕ → Type 0
    IsFirst bundle other = bidders_on right waiting other ≢ [] → is_gt (rarer right excess bundle other) ≡ false

    pub one_more_bundle : (bundles : List (List ℕ)) (bundle : List ℕ) → All (λ b. bundle_cmp b bundle ≡ Less) bundles → (rarest found : Option Candidate)
        → IsRarestIfAny right excess waiting bundles rarest → MatchOption found (bidders_on right waiting bundle ≡ []) (IsCandidate right excess waiting bundle)
        → IsRarestIfAny right excess waiting (bundles ++ bundle ∷ []) (rarer_candidate rarest found)
    one_more_bundle bundles bundle before None None none here = All-push (λ b. bidders_on right waiting b ≡ []) bundles bundle none here
    one_more_bundle bundles bundle before None (Some d) none here = record {
      bundle = bundle;
      there = Contains-push bundles bundle;
      is = here;
      none_rarer = All-push (IsFirst bundle) bundles bundle
          (search (rules, All-weaker))
          (search (rules, first_is_rarer, bundle_cmp_refl));
    }
    one_more_bundle bundles bundle before (Some c) None r here = record {
      bundle = r.bundle;
      there = Contains-append_left bundles (bundle ∷ []) r.bundle r.there;
      is = r.is;
      none_rarer = All-push (IsFirst r.bundle) bundles bundle r.none_rarer (λ n. absurd (n here));
    }
    one_more_bundle bundles bundle before (Some c) (Some d) r here = ⊎_elim
        (λ (l : d.count < c.count). subst (IsRarestIfAny right excess waiting (bundles ++ bundle ∷ []))
        (sym (ap (λ b. if b then Some d else Some c) (lt-ltb d.count c.count l))) (record {
          bundle = bundle;
          there = Contains-push bundles bundle;
          is = here;
          none_rarer = All-push (IsFirst bundle) bundles bundle
              (search (rules, All-weaker, not_more, fewer_is_rarer))
              (search (rules, first_is_rarer, bundle_cmp_refl));
        }))
        (λ (l : c.count ≤ d.count). subst (IsRarestIfAny right excess waiting (bundles ++ bundle ∷ []))
        (sym (ap (λ b. if b then Some d else Some c) (le-ltb d.count c.count l))) (record {
          bundle = r.bundle;
          there = Contains-append_left bundles (bundle ∷ []) r.bundle r.there;
          is = r.is;
          none_rarer = All-push (IsFirst r.bundle) bundles bundle r.none_rarer
              (search (rules, first_is_rarer, All-contains));
        }))
        (cases_lt d.count c.count)

    -- ---- the partner

    none_waits : (sorted : List (List ℕ)) → All (λ b. bidders_on right waiting b ≡ []) sorted → flat_map (bidders_on right waiting) sorted ≡ []
    none_waits [] none = refl
    none_waits (b ∷ sorted) none =
        ap₂ (λ (xs ys : List ℕ). xs ++ ys) (All-head (λ b. bidders_on right waiting b ≡ []) b sorted none)
        (none_waits sorted (All-tail (λ b. bidders_on right waiting b ≡ []) b sorted none))

    first_waits : (sorted : List (List ℕ)) (bundle : List ℕ) (index : ℕ) → IsOrdered (rarer right excess) sorted → Contains sorted bundle
        → slice_get (bidders_on right waiting bundle) 0 ≡ Some index → All (IsFirst bundle) sorted
        → slice_get (flat_map (bidders_on right waiting) sorted) 0 ≡ Some index
    first_waits [] bundle index ordered there e first = absurd (Contains-nil bundle there)
    first_waits (b ∷ sorted) bundle index ordered there e first =
        at (bidders_on right waiting b) refl (λ c. first_waits sorted bundle index ordered.1 c e (All-tail (IsFirst bundle) b sorted first))
      where
        later : bidders_on right waiting b ≡ [] → Contains sorted bundle
        later none = ⊎_elim
            (λ (same : b ≡ bundle).
            absurd (cc))
            (λ (c : Contains sorted bundle). c)
            (Contains-cons_cases b sorted bundle there)

        same : bidders_on right waiting b ≢ [] → b ≡ bundle
        same some = ⊎_elim
            (λ (e : b ≡ bundle). e)
            (λ (c : Contains sorted bundle).
            let up : is_gt (rarer right excess b bundle) ≡ false = search (rules, All-contains, All-from_recursion) in
            let down : is_gt (rarer right excess bundle b) ≡ false = All-head (IsFirst bundle) b sorted first some in
            rarer_equal b bundle (search (rules, tied, rarer_total)))
            (Contains-cons_cases b sorted bundle there)
          where
            tied : (o p : Ordering) → o ≡ ordering_reverse p → is_gt o ≡ false → is_gt p ≡ false → o ≡ Equal
            tied Less Less f u d = absurd (cc)
            tied Less Equal f u d = absurd (cc)
            tied Less Greater f u d = absurd (cc)
            tied Equal p f u d = refl
            tied Greater p f u d = absurd (cc)

        at : (xs : List ℕ) → bidders_on right waiting b ≡ xs → (Contains sorted bundle → slice_get (flat_map (bidders_on right waiting) sorted) 0 ≡ Some index)
            → slice_get (flat_map (bidders_on right waiting) (b ∷ sorted)) 0 ≡ Some index
        at [] none next = ap (λ (xs : List ℕ). slice_get (xs ++ flat_map (bidders_on right waiting) sorted) 0) none ∙ next (later none)
        at (x ∷ xs) some next = let is : b ≡ bundle = same (λ none. absurd (cc)) in
            search rules

    module _ (bidder : List (Atom (List ℕ))) where
      abbrev bundles : List (List ℕ)
      bundles = map (λ a. a.bundle) bidder

      pub no_partner : All (λ b. bidders_on right waiting b ≡ []) bundles → partner_of right excess waiting bidder ≡ None
      no_partner none = search (rules, none_waits, All-sort_by)

      pub rarest_is_partner : (c : Candidate) → IsRarest right excess waiting bundles c → partner_of right excess waiting bidder ≡ Some c.index
      rarest_is_partner c r = first_waits (sort_by (rarer right excess) bundles) r.bundle c.index (ordered-sort_by (rarer right excess) rarer_total bundles)
          (search (rules, Contains-permutation, permutation-sort_by))
          r.is.first (All-sort_by (rarer right excess) (IsFirst r.bundle) bundles r.none_rarer)
