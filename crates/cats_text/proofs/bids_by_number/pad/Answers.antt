-- `pad`
use Rattle.cats_text.proofs.Common.{◌≤◌, length, arith, rules}
use Rattle.cats_text.proofs.Parsing.BidsByNumber.{padded_more, within_push}
use Rattle.cats_text.proofs.bids_by_number.pad.Goals as goal

pub loop-arrivals-preserved : goal.loop-arrivals-preserved
loop-arrivals-preserved c =
    let space : length c.loop-arrivals.arrivals.items ≤ c.args.number = search rules in
    record {
      padded = search (rules, padded_more);
      within = λ n all. rw c.in_ok-push.ensures.items (within_push n c.loop-arrivals.arrivals.items 0 (c.loop-arrivals.invariant.within n all) (omega arith));
    }

pub returns-in_err-push-clause-within : goal.returns-in_err-push-clause-within
returns-in_err-push-clause-within c = λ n all. rw c.in_err-push.ensures.items (c.loop-arrivals.invariant.within n all)
