-- The bidders that have a bid on a bundle, as a map has them, and the first of them that waits.
use Rattle.analysis.proofs.Common.{rules, ◌≡◌, ◌<◌, ℕ, zero, suc, Bool, true, false, cond, List, [], ◌∷◌, ◌++◌, length, get_or, Some, Ordering, slice_get, ap}
use Rattle.analysis.proofs.Common.{◌∙◌, arith, ⊎_elim, append-nil, filter, Bor, BTreeMap, UpdatesBy, slice_cmp, is_eq, nat_cmp, cases_Bool, bundle_cmp}
use Rattle.analysis.proofs.Common.{Holders, bundle_cmp_equal, bundle_cmp_refl, holders_at, indices_in, passed_in, bytes_eq}
use Rattle.analysis.specs.Internal.Holders.{found_at}
use Rattle.canon.specs.Lemmas.Finding.{equal_from}
use Rattle.canon.specs.Lemmas.TextMaps.{updated as text_updated}

-- ---- the first that passes a test

pub first_passes : (p : ℕ → Bool) (xs : List ℕ) (k : ℕ) → k < length xs → p (get_or xs k 0) ≡ true → ((j : ℕ) → j < k → p (get_or xs j 0) ≡ false)
    → slice_get (filter p xs) 0 ≡ Some (get_or xs k 0)
first_passes p [] k l t before = absurd (omega arith)
first_passes p (y ∷ ys) zero l t before = ap (λ b. slice_get (cond {A = List ℕ} b (y ∷ filter p ys) (filter p ys)) 0) t
first_passes p (y ∷ ys) (suc k) l t before =
    ap (λ b. slice_get (cond {A = List ℕ} b (y ∷ filter p ys) (filter p ys)) 0) (before 0 (omega arith))
    ∙ first_passes p ys k (omega arith) t (λ j m. before (suc j) (omega arith))

-- ---- the map

abbrev pub key_cmp : Bor (List ℕ) → Bor (List ℕ) → Ordering
key_cmp one other = slice_cmp nat_cmp one.now other.now

same_test : (goods bundle : List ℕ) → bytes_eq goods bundle ≡ is_eq (bundle_cmp goods bundle)
same_test goods bundle = search (rules, bundle_cmp_equal, equal_from, bundle_cmp_refl)

-- what a map has for a bundle, after holders were put there
pub updated : (old new : BTreeMap (Bor (List ℕ)) Holders) (goods : List ℕ) (holders : Holders)
    → UpdatesBy key_cmp (λ key. slice_cmp nat_cmp goods key.now) old new (Some holders)
    → (bundle : List ℕ) → found_at new bundle ≡ cond (is_eq (bundle_cmp goods bundle)) (Some holders) (found_at old bundle)
updated old new goods holders h bundle =
    text_updated (λ (key : Bor (List ℕ)). key.now) old new goods holders h bundle
    ∙ ap (λ b. cond b (Some holders) (found_at old bundle)) (same_test goods bundle)

-- one more bidder has a bid on the bundle
pub added : (old new : BTreeMap (Bor (List ℕ)) Holders) (goods : List ℕ) (holders : Holders) (index : ℕ)
    → UpdatesBy key_cmp (λ key. slice_cmp nat_cmp goods key.now) old new (Some holders) → holders.indices.items ≡ holders_at old goods ++ index ∷ []
    → (bundle : List ℕ) → holders_at new bundle ≡ holders_at old bundle ++ cond (is_eq (bundle_cmp goods bundle)) (index ∷ []) []
added old new goods holders index h more bundle = ap indices_in (updated old new goods holders h bundle) ∙ ⊎_elim
    (λ (y : is_eq (bundle_cmp goods bundle) ≡ true).
    let same : goods ≡ bundle = bundle_cmp_equal goods bundle (equal_from _ y) in
    search rules)
    (search (rules, append-nil))
    (cases_Bool (is_eq (bundle_cmp goods bundle)))

pub still_passed : (old new : BTreeMap (Bor (List ℕ)) Holders) (goods : List ℕ) (holders : Holders)
    → UpdatesBy key_cmp (λ key. slice_cmp nat_cmp goods key.now) old new (Some holders) → holders.passed ≡ passed_in (found_at old goods)
    → (bundle : List ℕ) → passed_in (found_at new bundle) ≡ passed_in (found_at old bundle)
still_passed old new goods holders h same bundle = ap passed_in (updated old new goods holders h bundle) ∙ ⊎_elim
    (λ (y : is_eq (bundle_cmp goods bundle) ≡ true).
    ap (λ b. passed_in (cond b (Some holders) (found_at old bundle))) y ∙ same
    ∙ ap (λ (xs : List ℕ). passed_in (found_at old xs)) (bundle_cmp_equal goods bundle (equal_from _ y)))
    (search rules)
    (cases_Bool (is_eq (bundle_cmp goods bundle)))
