-- `BidRun::count_leading`
use Rattle.canon.proofs.Common.{◌∙◌, sym, arith, seen_bid}
use Rattle.canon.proofs.Walks.BidRuns.{one_more_leads, none_leads}
use Rattle.canon.proofs.comparing.bid_run.BidRun.count_leading.Goals as goal

pub loop-count-preserved : goal.loop-count-preserved
loop-count-preserved g c =
    let more = one_more_leads c.args.dummy c.args.self.now c.loop-count.count (seen_bid c.at.result) c.at.ensures (sym c.eq.ensures ∙ c.if-eq.true) in
    record { within = omega arith; so_far = omega (arith, c.loop-count.invariant.so_far) }

pub returns-else-eq : goal.returns-else-eq
returns-else-eq g c =
    let none = none_leads c.args.dummy c.args.self.now c.loop-count.count (seen_bid c.at.result) c.at.ensures (sym c.eq.ensures ∙ c.if-eq.false) in
    omega (arith, c.loop-count.invariant.so_far)
