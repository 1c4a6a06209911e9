-- `Partners::candidate`
use Rattle.analysis.proofs.Common.{rules, ◌≡◌, List, Bool, [], length, refl, sym, subst, IsSome, MatchOption, Some, slice_get, filter, ArePassed, waits_at}
use Rattle.analysis.proofs.Comparing.Partnering.{candidate_found, none_found, passed_more}
use Rattle.analysis.proofs.differences.partners.Partners.candidate.Goals as goal

pub returns-in_err-get_mut-clause-candidate : goal.returns-in_err-get_mut-clause-candidate
returns-in_err-get_mut-clause-candidate c = search (rules, none_found, c.from_residual.ensures, c.in_err-get_mut.ensures.value)

pub returns-clause-partners : goal.returns-clause-partners
returns-clause-partners c = λ right waiting are.
    let waits = c.deref.ensures.value in
    passed_more right waiting c.args.self.now are _ c.args.goods.now c.in_ok-get_mut.field-0.now c.first_waiting.new.self c.in_ok-get_mut.ensures.value
    ((c.get_mut.follows.holds c.first_waiting.new.self).3 (subst IsSome c.in_ok-get_mut.ensures.value refl)) c.first_waiting.ensures.indices
    (λ passed. subst (λ (bs : List Bool). ArePassed bs (Some c.first_waiting.new.self)) waits
    (c.first_waiting.ensures.passed (subst (λ (bs : List Bool). ArePassed bs (Some c.in_ok-get_mut.field-0.now)) (sym waits) passed)))

pub returns-clause-candidate : goal.returns-clause-candidate
returns-clause-candidate c = λ right waiting are.
    let waits = c.deref.ensures.value in
    let known = c.in_ok-get_mut.field-0.now in
    candidate_found right waiting c.args.self.now are c.args.goods.now known c.first_waiting.result c.in_ok-get_mut.ensures.value
    (subst (λ (bs : List Bool). MatchOption c.first_waiting.result (filter (waits_at bs) known.indices.items ≡ [])
    (λ d. (slice_get (filter (waits_at bs) known.indices.items) 0 ≡ Some d.index) × (d.count ≡ length known.indices.items))) waits
    (c.first_waiting.ensures.first (subst (λ (bs : List Bool). ArePassed bs (Some known)) (sym waits)
    (subst (ArePassed c.args.self.now.waits.items) (sym c.in_ok-get_mut.ensures.value) (are.passed c.args.goods.now)))))
