-- Named bids in order. The rising list of the named numbers is what a sort leaves without repeated numbers.
use Rattle.analysis.proofs.Common.{rules, ◌≡◌, ℕ, ◌<◌, true, eqb, leb, List, length, nat_cmp, sym, ◌∙◌, subst, Option, None, All, Contains, IsPermutation, Ok}
use Rattle.analysis.proofs.Common.{IsSorted, and_from, and_parts, leb-false, AllPairs-from_increasing, Contains-permutation, IsPermutation-sym, IsBundle, dedup}
use Rattle.analysis.proofs.Common.{IsRising, has_good, AreBelow-from_has, has-filter, same_from_has, PlainFile, All-from_Contains, found_none, first_clash}
use Rattle.analysis.proofs.Common.{allocation_verdict, missing_bid, named_bids, verdict_by, IsRisingOf, Contains-dedup_nat, Contains-from_dedup}
use Rattle.analysis.proofs.Common.{IsStrictlyIncreasing-dedup, contains_from_has, has_from_contains}
use Rattle.analysis.proofs.Explaining.Packings.{rising_from_pairs}
use Rattle.analysis.proofs.Allocating.LpRows.{in_numbers, passing_rise}
use Rattle.std.specs.Cmp.{both_ways as same_test}

pub rising_of : (named sorted winners : List ℕ) → IsPermutation named sorted → IsSorted nat_cmp sorted → winners ≡ dedup eqb sorted → IsRisingOf named winners
rising_of named sorted winners p s e = record {
  rises = subst IsRising (sym e)
      (search (rules, rising_from_pairs, AllPairs-from_increasing, IsStrictlyIncreasing-dedup));
  members = λ i. same_test (has_good winners i) (has_good named i)
      (λ h. has_from_contains named i (Contains-permutation sorted named i (IsPermutation-sym named sorted p)
      (Contains-from_dedup eqb sorted i (subst (λ (ws : List ℕ). Contains ws i) e (contains_from_has winners i h)))))
      (λ h. has_from_contains winners i (subst (λ (ws : List ℕ). Contains ws i) (sym e)
      (search (rules, Contains-dedup_nat, Contains-permutation, contains_from_has))));
}

module _ (f : PlainFile) (named winners : List ℕ) (r : IsRisingOf named winners) (none : missing_bid f named ≡ None) where
  below : (i : ℕ) → has_good winners i ≡ true → i < length f.bids
  below i h = leb-false (length f.bids) i (found_none (leb (length f.bids)) named none i (contains_from_has named i (sym (r.members i) ∙ h)))

  pub are_numbers : IsBundle (length f.bids) winners
  are_numbers = (r.rises, AreBelow-from_has (length f.bids) winners below)

  pub all_within : All (λ i. i < length f.bids) winners
  all_within = All-from_Contains (λ i. i < length f.bids) winners (λ i c. below i (has_from_contains winners i c))

  pub are_named : winners ≡ named_bids f named
  are_named = search (rules, same_from_has, passing_rise, has-filter, and_from, in_numbers, below, and_parts)

  pub number_within : (i : ℕ) → Contains winners i → i < length f.bids
  number_within i c = below i (has_from_contains winners i c)

  pub verdict_is : (clash : Option (ℕ × ℕ)) → clash ≡ first_clash f winners → Ok (verdict_by f winners clash) ≡ allocation_verdict f named
  verdict_is clash e = search (rules, are_named)
