-- `mark_dummies`
use Rattle.commands.proofs.Common.{◌≡◌, ◌<◌, false, [], refl, Some, ap, ◌∙◌, arith, length, take, slice_get, length-map-range_with_len, PlainBid, PlainFile}
use Rattle.commands.proofs.Common.{IsBid-there, has_dummy}
use Rattle.commands.proofs.ByNumber.{by_number-replicate}
use Rattle.commands.proofs.Sizing.{marks_put, marks_same}
use Rattle.commands.proofs.sizes.count.mark_dummies.Goals as goal
use Rattle.commands.proofs.sizes.count.mark_dummies.Goals.{in-Some, in_default}

pub loop-number-init : goal.loop-number-init
loop-number-init c =
    rw (← c.dummy.ensures)
    (c.in_ok-marks.ensures.items_if_clones_equal (λ y e. e) ∙ by_number-replicate (has_dummy []) false c.dummy.result (λ k. refl))

pub index_mut-requires : goal.index_mut-requires
index_mut-requires c =
    let file : PlainFile = c.args.file.now in
    let b : PlainBid = record { price = c.at-dummy.result.0; goods = c.at-dummy.result.1.now; dummy = c.at-dummy.result.2 } in
    let stands : slice_get file.bids c.loop-number.number ≡ Some b = rw (← c.bids-bids.ensures) c.at-dummy.ensures in
    let bid = IsBid-there file.goods file.dummy file.bids c.loop-number.number b c.requires.each stands in
    let below : c.in-Some.dummy < file.dummy = rw c.in-Some.is at bid.dummy in
    let long = ap length c.loop-number.invariant ∙ length-map-range_with_len (has_dummy (take c.loop-number.number file.bids)) 0 file.dummy in
    omega (arith, long, c.loop-number.marks.ok.0)

pub loop-number-preserved : goal.loop-number-preserved
loop-number-preserved c =
    let file : PlainFile = c.args.file.now in
    let i = c.loop-number.number in
    let b : PlainBid = record { price = c.at-dummy.result.0; goods = c.at-dummy.result.1.now; dummy = c.at-dummy.result.2 } in
    let stands : slice_get file.bids i ≡ Some b = rw (← c.bids-bids.ensures) c.at-dummy.ensures in
    let bid = IsBid-there file.goods file.dummy file.bids i b c.requires.each stands in
    elim c.match-dummy.branch [
      | in-Some w ↦
          let below : w.in-Some.dummy < file.dummy = rw w.in-Some.is at bid.dummy in
          rw w.marks-is
          (marks_put file.bids i b stands file.dummy c.loop-number.marks.items c.loop-number.invariant w.in-Some.dummy w.in-Some.is below)
      | in_default w ↦
          rw w.marks-is (marks_same file.bids i b stands file.dummy c.loop-number.marks.items c.loop-number.invariant w.in_default.is)
    ]
