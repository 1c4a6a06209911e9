-- `excess_bidders`: A bidder takes the equal one of the others with it, where one is left, and else it is named.
use Rattle.analysis.proofs.Common.{◌≡◌, ◌-◌, ◌<◌, false, map, sym, ap, ◌∙◌, arith, is_eq, bidder_cmp, offers, bidder_at}
use Rattle.analysis.proofs.Comparing.ExcessBidders.{bidder_at_index, end_within, one_equal, one_excess}
use Rattle.analysis.proofs.differences.excess.excess_bidders.Goals.{else-end-gt0-via-then-end-gt0+else-is_eq, else-end-gt0-via-else-end-gt0}
use Rattle.analysis.proofs.differences.excess.excess_bidders.Goals as goal

pub loop-index-preserved-then-is_eq : goal.loop-index-preserved-then-is_eq
loop-index-preserved-then-is_eq g c =
    let bidders = c.args.bidders.now in
    let others = c.args.others.now in
    let bidder = c.index-bidders-index.result in
    let skip = c.skip_greater-end.ensures in
    one_equal bidders others c.loop-index.index c.loop-index.end c.skip_greater-end.result c.loop-index.excess.items bidder c.requires.never_fall
    (omega arith) (omega arith) c.loop-index.invariant c.index-bidders-index.is
    (record { within = skip.within; skipped = skip.skipped; stopped = skip.stopped }) c.index-others-end.result (omega arith) c.index-others-end.is
    (sym (c.is_eq.ensures ∙ ap is_eq c.order.ensures) ∙ c.if-is_eq.true)

pub loop-index-preserved : goal.loop-index-preserved
loop-index-preserved g c =
    let bidders = c.args.bidders.now in
    let others = c.args.others.now in
    let bidder = c.index-bidders-index.result in
    let skip = c.skip_greater-end.ensures in
    let before = c.skip_greater-end.result in
    let within = end_within bidders others c.loop-index.index c.loop-index.end c.loop-index.excess.items c.loop-index.invariant in
    let differ : 0 < before → is_eq (bidder_cmp (offers bidder) (bidder_at (map offers others) (before - 1))) ≡ false =
    elim c.else-end-gt0.branch [
      | else-end-gt0-via-then-end-gt0+else-is_eq w ↦ λ l.
          let at = bidder_at_index others (before - 1) w.index-others-end.result (omega (arith, within, skip.within)) w.index-others-end.is in
          ap (λ x. is_eq (bidder_cmp (offers bidder) x)) at ∙ sym (w.is_eq.ensures ∙ ap is_eq w.order.ensures) ∙ w.if-is_eq.false
      | else-end-gt0-via-else-end-gt0 w ↦ λ l. absurd (omega (arith, w.if-end-gt0.false))
    ] in
    rw c.in_ok-push.ensures.items
    (one_excess bidders others c.loop-index.index c.loop-index.end before c.loop-index.excess.items bidder c.requires.never_fall
    (omega arith) (omega arith) c.loop-index.invariant c.index-bidders-index.is
    (record { within = skip.within; skipped = skip.skipped; stopped = skip.stopped }) c.requires.others_never_fall differ)
