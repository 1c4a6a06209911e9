-- `push_numbers`
use Rattle.analysis.proofs.Common.{◌≡◌, ◌+◌, ◌++◌, List, map, length, rules, true, ap, arith, sym, subst, ◌∙◌, list_all, Word, number_of, is_bid_number, Memory}
use Rattle.analysis.proofs.Common.{words_in, RefusesLine, tests, YieldsList-end, YieldsList-so_far, YieldsList-turn}
use Rattle.analysis.proofs.Allocating.NumberLines.{begins_at, came_through, fails_at, no_number, number_found}
use Rattle.analysis.proofs.Allocating.YieldedWords.{words_yielded}
use Rattle.analysis.proofs.winners.bid_numbers.push_numbers.Goals as goal

pub returns-in_default-clause-fault : goal.returns-in_default-clause-fault
returns-in_default-clause-fault c =
    let all =
    words_yielded c.args.line.now c.loop-word.yielded _ c.loop-word.yielded_by c.into_iter-word-iterator.ensures.into_iter_gives
    c.filter-word-items.ensures.source c.filter-word-items.ensures.closure c.split.ensures.rest c.split.ensures.done c.split.ensures.closure
    (λ x b q k. search (rules, tests)) (λ x b q k. search (rules, tests)) in
    let turn = YieldsList-turn all c.loop-word.yielded _ c.loop-word.yielded_by _ _ c.in-Some.word c.in-Some.is c.next.ensures.steps in (
      omega arith,
      fails_at (words_in c.args.line.now) (length c.loop-word.yielded) c.in-Some.word.now turn.0 turn.1
          (no_number c.in-Some.word.now (sym c.number_in.ensures ∙ c.in_default.is)),
    )

pub returns-in_err-push-clause-fault : goal.returns-in_err-push-clause-fault
returns-in_err-push-clause-fault c =
    let all =
    words_yielded c.args.line.now c.loop-word.yielded _ c.loop-word.yielded_by c.into_iter-word-iterator.ensures.into_iter_gives
    c.filter-word-items.ensures.source c.filter-word-items.ensures.closure c.split.ensures.rest c.split.ensures.done c.split.ensures.closure
    (λ x b q k. search (rules, tests)) (λ x b q k. search (rules, tests)) in
    let before = YieldsList-so_far all c.loop-word.yielded _ c.loop-word.yielded_by in
    let turn = YieldsList-turn all c.loop-word.yielded _ c.loop-word.yielded_by _ _ c.in-Some.word c.in-Some.is c.next.ensures.steps in
    came_through (RefusesLine c.args.line.now (c.args.ends + 1)) c.from_residual.result Memory c.from_residual.ensures.1
    (begins_at (words_in c.args.line.now) (length c.loop-word.yielded) c.in-Some.word.now turn.0 turn.1
    (subst (λ (ws : List Word). list_all is_bid_number ws ≡ true) before c.loop-word.invariant.faultless)
    (number_found c.in-Some.word.now c.in-Some-number_in.number (sym c.number_in.ensures ∙ c.in-Some-number_in.is)).0)

pub returns-clause-numbers : goal.returns-clause-numbers
returns-clause-numbers c =
    let all =
    words_yielded c.args.line.now c.loop-word.yielded _ c.loop-word.yielded_by c.into_iter-word-iterator.ensures.into_iter_gives
    c.filter-word-items.ensures.source c.filter-word-items.ensures.closure c.split.ensures.rest c.split.ensures.done c.split.ensures.closure
    (λ x b q k. search (rules, tests)) (λ x b q k. search (rules, tests)) in
    let end = YieldsList-end all c.loop-word.yielded _ c.loop-word.yielded_by _ _ c.in-None.is c.next.ensures.steps in
    c.loop-word.invariant.appended ∙ ap (λ (ws : List Word). c.args.numbers.now.items ++ map number_of ws) end.0

pub returns-clause-faultless : goal.returns-clause-faultless
returns-clause-faultless c =
    let all =
    words_yielded c.args.line.now c.loop-word.yielded _ c.loop-word.yielded_by c.into_iter-word-iterator.ensures.into_iter_gives
    c.filter-word-items.ensures.source c.filter-word-items.ensures.closure c.split.ensures.rest c.split.ensures.done c.split.ensures.closure
    (λ x b q k. search (rules, tests)) (λ x b q k. search (rules, tests)) in
    let end = YieldsList-end all c.loop-word.yielded _ c.loop-word.yielded_by _ _ c.in-None.is c.next.ensures.steps in
    subst (λ (ws : List Word). list_all is_bid_number ws ≡ true) end.0 c.loop-word.invariant.faultless
