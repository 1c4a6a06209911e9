-- The partners of left bidders: what is taken waits no more, and the candidate on the rarest bundle is the partner.
use Rattle.analysis.proofs.Common.{rules, ◌≡◌, ◌<◌, ◌≤◌, ◌==◌, ℕ, Bool, true, false, not, ◌&&◌, cond, List, [], ◌∷◌, length, set, Option, Some, None, slice_get}
use Rattle.analysis.proofs.Common.{refl, sym, ap, ◌∙◌, subst, ⊎_elim, MatchOption, filter, Bor, BTreeMap, UpdatesBy, slice_cmp, is_eq, nat_cmp, cases_Bool}
use Rattle.analysis.proofs.Common.{eq-eqb, ne_eqb, get_or-set_other, get_or_past, Atom, bundle_cmp, bundle_cmp_equal, bidders_on, Candidate, Holders, ArePassed}
use Rattle.analysis.proofs.Common.{holders_at, indices_in, waits_at, ArePartners, IsCandidate, and_right, and_comm, get_or-set_at, Partners}
use Rattle.analysis.proofs.Comparing.HoldersFound.{key_cmp, updated}
use Rattle.analysis.specs.Internal.Holders.{found_at}
use Rattle.canon.specs.Lemmas.Finding.{equal_from}

-- ---- one that waits no more

both_tests : (p q : ℕ → Bool) (xs : List ℕ) → filter (λ x. p x && q x) xs ≡ filter p (filter q xs)
both_tests p q [] = refl
both_tests p q (x ∷ xs) = at (p x) (q x) refl refl (both_tests p q xs)
  where
    at : (b d : Bool) → p x ≡ b → q x ≡ d → filter (λ x. p x && q x) xs ≡ filter p (filter q xs)
        → filter (λ x. p x && q x) (x ∷ xs) ≡ filter p (filter q (x ∷ xs))
    at true true e f h = rw (e, f) (rw e (ap (λ (ys : List ℕ). x ∷ ys) h))
    at false true e f h = rw (e, f) (rw e h)
    at true false e f h = rw (e, f) h
    at false false e f h = rw (e, f) h

pub all_tested : (p q : ℕ → Bool) (xs : List ℕ) → ((x : ℕ) → p x ≡ q x) → filter p xs ≡ filter q xs
all_tested p q [] same = refl
all_tested p q (x ∷ xs) same = search rules

waits_less : (old new : List Bool) (index : ℕ) → ((i : ℕ) → waits_at new i ≡ (not (i == index) && waits_at old i)) → (xs : List ℕ)
    → filter (waits_at new) xs ≡ filter (λ i. not (i == index)) (filter (waits_at old) xs)
waits_less old new index same xs =
    all_tested (waits_at new) (λ i. not (i == index) && waits_at old i) xs same ∙ both_tests (λ i. not (i == index)) (waits_at old) xs

pub one_waits_less : (right : List (List (Atom (List ℕ)))) (waiting : List ℕ) (old new : Partners) (index : ℕ) → new.excess ≡ old.excess
    → new.holders ≡ old.holders → ((i : ℕ) → waits_at new.waits.items i ≡ (not (i == index) && waits_at old.waits.items i)) → ArePartners right waiting old
    → ArePartners right (filter (λ i. not (i == index)) waiting) new
one_waits_less right waiting old new index e f same are = record {
  within = rw e are.within;
  rising = rw e are.rising;
  holders = rw (e, f) are.holders;
  passed = rw f (λ bundle k l. same _ ∙ and_right _ _ (are.passed bundle k l));
  wait = search (rules, waits_less);
}

pub set_waits : (waits : List Bool) (index : ℕ) → index < length waits → (i : ℕ) → waits_at (set waits index false) i ≡ (not (i == index) && waits_at waits i)
set_waits waits index l i = search (rules, get_or-set_at, eq-eqb, get_or-set_other, ne_eqb)

pub unset_waits : (waits : List Bool) (index : ℕ) → length waits ≤ index → (i : ℕ) → waits_at waits i ≡ (not (i == index) && waits_at waits i)
unset_waits waits index l i = search (rules, get_or_past, eq-eqb, ne_eqb)

-- ---- the first that waits of those that have a bid on a bundle

swapped : (p q : ℕ → Bool) (xs : List ℕ) → filter p (filter q xs) ≡ filter q (filter p xs)
swapped p q xs = sym (both_tests p q xs) ∙ all_tested (λ x. p x && q x) (λ x. q x && p x) xs (λ x. and_comm (p x) (q x)) ∙ both_tests q p xs

module _ (right : List (List (Atom (List ℕ)))) (waiting : List ℕ) (partners : Partners) (are : ArePartners right waiting partners) where
  -- they are those that wait of all that have one
  pub waiting_on : (bundle : List ℕ) → bidders_on right waiting bundle ≡ filter (waits_at partners.waits.items) (holders_at partners.holders bundle)
  waiting_on bundle = search (rules, swapped)

  pub none_found : (bundle : List ℕ) → None ≡ found_at partners.holders bundle → bidders_on right waiting bundle ≡ []
  none_found bundle e = waiting_on bundle ∙ ap (λ (o : Option Holders). filter (waits_at partners.waits.items) (indices_in o)) (sym e)

  pub candidate_found : (bundle : List ℕ) (known : Holders) (found : Option Candidate) → Some known ≡ found_at partners.holders bundle
      → MatchOption found (filter (waits_at partners.waits.items) known.indices.items ≡ [])
      (λ c. (slice_get (filter (waits_at partners.waits.items) known.indices.items) 0 ≡ Some c.index) × (c.count ≡ length known.indices.items))
      → MatchOption found (bidders_on right waiting bundle ≡ []) (IsCandidate right partners.excess.items waiting bundle)
  candidate_found bundle known None e h = search (rules, waiting_on)
  candidate_found bundle known (Some c) e h = search (rules, waiting_on)

  -- that more of them are passed changes nothing
  pub passed_more : (new : BTreeMap (Bor (List ℕ)) Holders) (goods : List ℕ) (known now : Holders) → Some known ≡ found_at partners.holders goods
      → UpdatesBy key_cmp (λ key. slice_cmp nat_cmp goods key.now) partners.holders new (Some now) → now.indices ≡ known.indices
      → (ArePassed partners.waits.items (Some known) → ArePassed partners.waits.items (Some now))
      → ArePartners right waiting (record { excess = partners.excess; holders = new; waits = partners.waits })
  passed_more new goods known now e h same passed = record {
    within = are.within;
    rising = are.rising;
    holders = λ bundle. ap indices_in (updated partners.holders new goods now h bundle) ∙ ⊎_elim
        (search (rules, same_goods))
        (search rules)
        (cases_Bool (is_eq (bundle_cmp goods bundle)));
    passed = λ bundle. subst (ArePassed partners.waits.items) (sym (updated partners.holders new goods now h bundle))
        (⊎_elim
        (search rules)
        (λ (n : is_eq (bundle_cmp goods bundle) ≡ false).
        subst (λ b. ArePassed partners.waits.items (cond b (Some now) (found_at partners.holders bundle))) (sym n) (are.passed bundle))
        (cases_Bool (is_eq (bundle_cmp goods bundle))));
    wait = are.wait;
  }
    where
      same_goods : (bundle : List ℕ) → is_eq (bundle_cmp goods bundle) ≡ true → goods ≡ bundle
      same_goods bundle y = bundle_cmp_equal goods bundle (equal_from _ y)
