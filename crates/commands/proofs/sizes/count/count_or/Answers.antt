-- `count_or`
use Rattle.commands.proofs.Common.{◌≡◌, Some, arith, slice_get, PlainBid}
use Rattle.commands.proofs.Sizing.{or_more}
use Rattle.commands.proofs.sizes.count.count_or.Goals as goal
use Rattle.commands.proofs.sizes.count.count_or.Goals.{then-is_none, else-is_none}

pub loop-number-preserved : goal.loop-number-preserved
loop-number-preserved c =
    let i = c.loop-number.number in
    let b : PlainBid = record { price = c.at-dummy.result.0; goods = c.at-dummy.result.1.now; dummy = c.at-dummy.result.2 } in
    let stands : slice_get c.args.file.now.bids i ≡ Some b = rw (← c.bids-bids.ensures) c.at-dummy.ensures in
    elim c.if-is_none.branch [
      | then-is_none w ↦ grind (arith, or_more c.args.file.now.bids i b stands)
      | else-is_none w ↦ grind (arith, or_more c.args.file.now.bids i b stands)
    ]
