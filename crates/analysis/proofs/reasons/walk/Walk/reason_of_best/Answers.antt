-- `Walk::reason_of_best`: the fate of the best bid is next in its bidder's list (proofs/NextBest).
use Rattle.analysis.proofs.Common.{rules, arith, ◌≡◌, ◌+◌, length, refl, ap, ◌∙◌, get_or_default, on_ok_weaker, Keep, Inside, plain_reason, IfOk-weaker}
use Rattle.analysis.specs.Reasons.{reason_of}
use Rattle.analysis.proofs.Explaining.NextBest.{inside_reason, inside_within, keep_fits, keep_reason, or_dropped, or_here, or_kept, or_not_kept, or_start}
use Rattle.analysis.proofs.Explaining.NextBest.{packing_reason, packing_within, passed_dropped, passed_fits, passed_kept, start_there, xor_fate_is, xor_kept}
use Rattle.analysis.proofs.Explaining.NextBest.{xor_long, xor_not_kept, xor_start, xor_within}
use Rattle.analysis.proofs.reasons.walk.Walk.reason_of_best.Goals as goal

pub overflow_add-self : goal.overflow_add-self
overflow_add-self c = let few = passed_fits c.requires.best c.requires.passed in omega arith

pub index-requires : goal.index-requires
index-requires c = let l = (or_here c.requires.best c.requires.passed c.in-None.is).0 in omega (arith, l, c.args.known.now.fates.or.ok.0)

pub keep-requires : goal.keep-requires
keep-requires c = search (rules, or_kept, keep_fits, or_start, c.requires.best, c.requires.passed, c.in-None.is, c.index.ensures, c.in-None-index.is)

pub returns-in-None-index-clause-reason : goal.returns-in-None-index-clause-reason
returns-in-None-index-clause-reason c = search (rules, or_kept, IfOk-weaker, keep_reason, or_start)

pub returns-in-None-index-clause-passed : goal.returns-in-None-index-clause-passed
returns-in-None-index-clause-passed c = search (rules, or_kept, on_ok_weaker, passed_kept)

pub numbers_at-requires : goal.numbers_at-requires
numbers_at-requires c = search (rules, or_dropped, packing_within)

pub returns-in_ok-numbers_at-in-Some-index-clause-reason : goal.returns-in_ok-numbers_at-in-Some-index-clause-reason
returns-in_ok-numbers_at-in-Some-index-clause-reason c = search (rules, packing_reason, or_dropped)

pub returns-in_ok-numbers_at-in-Some-index-clause-passed : goal.returns-in_ok-numbers_at-in-Some-index-clause-passed
returns-in_ok-numbers_at-in-Some-index-clause-passed c =
    let t = or_dropped c.requires.best c.requires.passed c.in-None.is c.index.ensures c.in-Some-index.is in
    passed_dropped c.requires.best c.requires.passed (or_not_kept c.requires.best c.requires.passed c.in-None.is t) refl refl

-- ---- a bid of an XOR bidder

pub index-requires-in-Some : goal.index-requires-in-Some
index-requires-in-Some c = let l = xor_long c.requires.best c.requires.passed c.in-Some.is in omega (arith, l, c.args.known.now.fates.xor.ok.0)

pub index-requires-in-Some-2 : goal.index-requires-in-Some-2
index-requires-in-Some-2 c =
    let l = xor_within c.requires.best c.requires.passed c.in-Some.is c.index-in-Some.ensures in omega (arith, l, c.index-in-Some.result.now.ok.0)

pub index-requires-in-None-index-2 : goal.index-requires-in-None-index-2
index-requires-in-None-index-2 c = let l = start_there c.requires.best c.requires.passed c.in-Some.is in omega (arith, l, c.args.known.now.starts.ok.0)

pub keep-requires-in-None-index-2 : goal.keep-requires-in-None-index-2
keep-requires-in-None-index-2 c =
    let fate = xor_fate_is c.requires.best c.requires.passed c.in-Some.is c.index-in-Some.ensures c.index-in-Some-2.ensures c.in-None-index-2.is in
    let fits = keep_fits c.requires.best c.requires.passed (xor_kept c.requires.best c.requires.passed c.in-Some.is fate)
    (xor_start c.requires.best c.requires.passed c.in-Some.is c.index-in-None-index-2.ensures) in omega arith

pub returns-in-None-index-2-clause-reason : goal.returns-in-None-index-2-clause-reason
returns-in-None-index-2-clause-reason c =
    let fate = xor_fate_is c.requires.best c.requires.passed c.in-Some.is c.index-in-Some.ensures c.index-in-Some-2.ensures c.in-None-index-2.is in
    IfOk-weaker c.keep-in-None-index-2.result
    (λ reason. plain_reason reason ≡ Keep (c.index-in-None-index-2.result.now + length c.args.self.now.points.items))
    (λ reason. plain_reason reason ≡ reason_of c.args.known.now.file.now c.args.bid.now.number)
    (λ reason e. e ∙ keep_reason c.requires.best c.requires.passed (xor_kept c.requires.best c.requires.passed c.in-Some.is fate)
    (xor_start c.requires.best c.requires.passed c.in-Some.is c.index-in-None-index-2.ensures)) c.keep-in-None-index-2.ensures.reason

pub returns-in-None-index-2-clause-passed : goal.returns-in-None-index-2-clause-passed
returns-in-None-index-2-clause-passed c = search (rules, xor_fate_is, on_ok_weaker, passed_kept, xor_kept)

pub index-requires-in-Some-index-2 : goal.index-requires-in-Some-index-2
index-requires-in-Some-index-2 c =
    let fate = xor_fate_is c.requires.best c.requires.passed c.in-Some.is c.index-in-Some.ensures c.index-in-Some-2.ensures c.in-Some-index-2.is in
    let l = inside_within c.requires.best c.requires.passed c.in-Some.is fate in omega (arith, l, c.args.self.now.points.ok.0)

pub returns-in-Some-index-2-clause-reason : goal.returns-in-Some-index-2-clause-reason
returns-in-Some-index-2-clause-reason c =
    let fate = xor_fate_is c.requires.best c.requires.passed c.in-Some.is c.index-in-Some.ensures c.index-in-Some-2.ensures c.in-Some-index-2.is in
    let within = inside_within c.requires.best c.requires.passed c.in-Some.is fate in
    ap Inside (c.index-in-Some-index-2.ensures
    ∙ get_or_default c.args.self.now.points.items c.in-Some-index-2.index c.index-in-Some-index-2.result.now 0 within)
    ∙ inside_reason c.requires.best c.requires.passed c.in-Some.is fate

pub returns-in-Some-index-2-clause-passed : goal.returns-in-Some-index-2-clause-passed
returns-in-Some-index-2-clause-passed c =
    let fate = xor_fate_is c.requires.best c.requires.passed c.in-Some.is c.index-in-Some.ensures c.index-in-Some-2.ensures c.in-Some-index-2.is in
    passed_dropped c.requires.best c.requires.passed (xor_not_kept c.requires.best c.requires.passed c.in-Some.is fate) refl refl
