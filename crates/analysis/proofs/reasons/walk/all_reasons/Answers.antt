-- `all_reasons`: each turn puts the reason of one bid at its number (proofs/Reasoned).
use Rattle.analysis.proofs.Common.{arith, ◌<◌, ℕ, length, sym, ◌∙◌, length-set, PlainFile, bid_at, NumberedBid}
use Rattle.analysis.proofs.Explaining.BestBids.{numbered}
use Rattle.analysis.proofs.Explaining.Reasoned.{one_more_reason, all_reasoned}
use Rattle.analysis.proofs.reasons.walk.all_reasons.Goals as goal

pub loop-index-preserved : goal.loop-index-preserved
loop-index-preserved c =
    let known = c.args.known.now in
    let f : PlainFile = known.file.now in
    let bid : NumberedBid = c.index-bid.result.now in
    let index : ℕ = c.loop-index.index in
    let within : index < length known.bids.items = omega (arith, c.loop-index-test.true, c.len-index-end.ensures, known.bids.ok.0) in
    let here = numbered f known.bids.items c.requires.order (bid_at f 0) bid (index, within, sym c.index-bid.ensures) in
    record {
      long = length-set c.loop-index.reasons.items bid.number c.in_ok-reason.reason ∙ c.loop-index.invariant.long;
      each = one_more_reason f known.bids.items c.loop-index.reasons.items index bid c.in_ok-reason.reason c.loop-index.invariant.long
          c.loop-index.invariant.each within (sym c.index-bid.ensures) here.0 c.in_ok-reason.ensures.reason;
      at = c.in_ok-reason.ensures.at;
    }

pub returns : goal.returns
returns c =
    let known = c.args.known.now in
    all_reasoned known.file.now known.bids.items c.loop-index.reasons.items c.loop-index.index c.requires.order c.loop-index.invariant.long
    (omega (arith, c.loop-index-test.false, c.len-index-end.ensures, known.bids.ok.0)) c.loop-index.invariant.each
