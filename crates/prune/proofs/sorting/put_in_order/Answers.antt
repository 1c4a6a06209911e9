-- `put_in_order`
use Rattle.prune.proofs.Common.{◌<◌, length, ◌∙◌, arith, IsPermutation-swap, IsPermutation-trans}
use Rattle.prune.proofs.sorting.put_in_order.Goals as goal
use Rattle.prune.proofs.sorting.put_in_order.Goals.{then-to-from+then-from-len, else-to-from}

pub loop-to-preserved : goal.loop-to-preserved
loop-to-preserved g c =
    let h = c.loop-to.invariant in
    let now = c.loop-to.bids in
    elim c.if-to-from.branch [
      | then-to-from+then-from-len w ↦
          let from : c.index_now-from.result < length now.items = omega (arith, w.if-from-len.true, w.len-then-to-from.ensures, now.ok.0) in
          let to : c.loop-to.to < length now.items = omega (arith, from, w.if-to-from.true) in
          rw w.bids-is (record {
            moved = IsPermutation-trans _ _ _ h.moved (IsPermutation-swap now.items _ c.loop-to.to c.index_now-from.result to from w.swap.ensures.items);
            len = w.swap.ensures.len ∙ h.len;
          })
      | else-to-from w ↦ rw w.bids-is h
    ]
