-- `add`
use Rattle.analysis.proofs.Common.{rules, ◌≡◌, ◌∙◌, ◌++◌, ◌∷◌, [], List, ℕ, ap, cond, sym, subst, refl, is_eq, IsSome, Option, bundle_cmp, Holders, indices_in}
use Rattle.analysis.proofs.Common.{passed_in}
use Rattle.analysis.specs.Internal.Holders.{found_at}
use Rattle.analysis.proofs.Comparing.HoldersFound.{added, still_passed}
use Rattle.analysis.proofs.differences.holders.add.Goals as goal

pub returns-in-Some-clause-indices : goal.returns-in-Some-clause-indices
returns-in-Some-clause-indices c = search (rules, added, c.in-Some.ensures.value, c.in_ok-push.ensures.items)

pub returns-in-Some-clause-passed : goal.returns-in-Some-clause-passed
returns-in-Some-clause-passed c =
    let put : Holders = record { indices = c.push.new.self; passed = c.in-Some.known.now.passed } in
    still_passed c.args.holders.now (c.get_mut.follows.lender put) c.args.goods.now put
    ((c.get_mut.follows.holds put).3 (subst IsSome c.in-Some.ensures.value refl)) (ap passed_in c.in-Some.ensures.value)

pub returns-clause-indices : goal.returns-clause-indices
returns-clause-indices c = λ bundle.
    let old = c.args.holders.now in
    let goods = c.args.goods.now in
    let unfound = c.get_mut.follows.lender-at-none in
    let same : (b : List ℕ) → found_at unfound b ≡ found_at old b = λ b. ap (λ m. found_at m b) c.get_mut.follows.holds-at-none in
    let put : Holders = record { indices = c.push-2.new.self; passed = 0 } in
    added unfound c.insert.new.self goods put c.args.index c.in_ok-insert.ensures.updates
    (c.in_ok-push-2.ensures.items ∙ ap (λ (xs : List ℕ). xs ++ c.args.index ∷ []) c.new-indices.ensures.items
    ∙ ap (λ (o : Option Holders). indices_in o ++ c.args.index ∷ []) (c.in_default.ensures.value ∙ sym (same goods))) bundle
    ∙ ap (λ (o : Option Holders). indices_in o ++ cond {A = List ℕ} (is_eq (bundle_cmp goods bundle)) (c.args.index ∷ []) []) (same bundle)

pub returns-clause-passed : goal.returns-clause-passed
returns-clause-passed c = λ bundle.
    let old = c.args.holders.now in
    let goods = c.args.goods.now in
    let unfound = c.get_mut.follows.lender-at-none in
    let same : (b : List ℕ) → found_at unfound b ≡ found_at old b = λ b. ap (λ m. found_at m b) c.get_mut.follows.holds-at-none in
    let put : Holders = record { indices = c.push-2.new.self; passed = 0 } in
    still_passed unfound c.insert.new.self goods put c.in_ok-insert.ensures.updates
    (ap passed_in (c.in_default.ensures.value ∙ sym (same goods))) bundle ∙ ap passed_in (same bundle)
