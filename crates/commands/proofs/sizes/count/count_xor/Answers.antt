-- `count_xor`
use Rattle.commands.proofs.Common.{range_with_len, length-map, filter-map, has_dummy}
use Rattle.commands.proofs.sizes.count.count_xor.Goals as goal

pub returns : goal.returns
returns c =
    let file = c.args.file.now in
    let counted = filter-map (λ m. m) (has_dummy file.bids) (range_with_len 0 file.dummy) in
    rw (c.count_marks.ensures, c.as_slice.ensures.value, c.in_ok-marks.ensures, counted) (length-map _ _)
