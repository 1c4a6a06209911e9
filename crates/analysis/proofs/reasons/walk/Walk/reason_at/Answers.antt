-- `Walk::reason_at`: the best bid of the next bid's bidder on its goods is known (proofs/Turning).
use Rattle.analysis.proofs.Common.{◌∙◌, rules, arith, ◌≡◌, ℕ, true, sym, subst, ne_eqb, on_ok_weaker, is_best}
use Rattle.analysis.proofs.Explaining.TrueReasons.{reason_same, reason_zero}
use Rattle.analysis.proofs.Explaining.Turning.{at_next, best_is, own_price, passed_same, passed_zero, turned}
use Rattle.analysis.proofs.reasons.walk.Walk.reason_at.Goals as goal

pub returns-then-bid-eq0-clause-reason : goal.returns-then-bid-eq0-clause-reason
returns-then-bid-eq0-clause-reason c = search (rules, reason_zero, own_price, c.requires.next, c.if-bid-eq0.true)

pub returns-then-bid-eq0-clause-at : goal.returns-then-bid-eq0-clause-at
returns-then-bid-eq0-clause-at c = search (rules, at_next, best_is, passed_zero, turned)

pub returns-then-best-bid-clause-reason : goal.returns-then-best-bid-clause-reason
returns-then-best-bid-clause-reason c =
    let best = best_is c.requires.next c.requires.at c.turn_to-best.ensures.best in
    let price = own_price c.requires.next in
    sym (reason_same c.args.known.now.file.now c.args.bid.now.number c.turn_to-best.result.number (omega (arith, price, c.if-bid-eq0.false)) best.0
    (ne_eqb c.turn_to-best.result.number c.args.bid.now.number c.if-best-bid.true))

pub returns-then-best-bid-clause-at : goal.returns-then-best-bid-clause-at
returns-then-best-bid-clause-at c =
    let best = best_is c.requires.next c.requires.at c.turn_to-best.ensures.best in
    at_next c.requires.next best c.turn_to-best.ensures.held (passed_same c.requires.next c.turn_to-best.result best c.if-best-bid.true
    (turned c.requires.next c.requires.at c.turn_to-best.ensures.same c.turn_to-best.ensures.other))

pub reason_of_best-requires-clause-best : goal.reason_of_best-requires-clause-best
reason_of_best-requires-clause-best c = record {
  next = c.requires.next;
  positive = omega (arith, c.if-bid-eq0.false);
  best = subst (λ (k : ℕ). is_best c.args.known.now.file.now k ≡ true) c.if-best-bid.false
      (best_is c.requires.next c.requires.at c.turn_to-best.ensures.best).0.best;
}

pub reason_of_best-requires-clause-passed : goal.reason_of_best-requires-clause-passed
reason_of_best-requires-clause-passed c = turned c.requires.next c.requires.at c.turn_to-best.ensures.same c.turn_to-best.ensures.other

pub returns-clause-at : goal.returns-clause-at
returns-clause-at c =
    on_ok_weaker c.reason_of_best.result (λ passed. at_next c.requires.next (best_is c.requires.next c.requires.at c.turn_to-best.ensures.best)
    (c.reason_of_best.ensures.best ∙ c.turn_to-best.ensures.held) passed) c.reason_of_best.ensures.passed
