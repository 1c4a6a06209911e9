-- `Rounder::finish`
use Rattle.rounding.proofs.Pieces.{last_line, on_ok_both}
use Rattle.rounding.proofs.rounder.Rounder.finish.Goals as goal

pub returns : goal.returns
returns c =
    let same = c.as_slice-line.ensures.value in
    on_ok_both c.push_line.result
    (λ text. λ prices. last_line c.args.self.now _ _ c.is_significant.result c.is_bid_line-is_bid.result c.requires (rw same at c.is_significant.ensures)
    c.is_bid_line-is_bid.ensures text prices) (rw same at c.push_line.ensures.text) (rw same at c.push_line.ensures.prices)
