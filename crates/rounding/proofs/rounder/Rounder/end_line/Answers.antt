-- `Rounder::end_line`
use Rattle.rounding.proofs.Common.{refl}
use Rattle.rounding.proofs.TextLines.{one_or_none}
use Rattle.rounding.proofs.Pieces.{line_ended}
use Rattle.rounding.proofs.rounder.Rounder.end_line.Goals as goal

pub returns : goal.returns
returns c =
    let same = c.as_slice-line.ensures.value in
    line_ended c.args.self.now _ c.args.rounded.now _ c.push_line.new.self.text.items c.is_significant-significant.result c.is_bid_line-is_bid.result
    c.from.result c.requires refl c.clear.ensures.items refl refl (rw same at c.is_significant-significant.ensures) c.is_bid_line-is_bid.ensures
    (one_or_none c.is_significant-significant.result c.from.result c.from.ensures)
    (rw same at c.in_ok-push_line.ensures.text) c.in_ok-push.ensures.items (rw same at c.in_ok-push_line.ensures.prices)
