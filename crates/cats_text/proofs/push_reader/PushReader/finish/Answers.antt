-- `PushReader::finish`: the end of the bytes that the scanner took: it has what the header lines said, and what is kept of the bids.
use Rattle.cats_text.proofs.Common.{rules}
use Rattle.cats_text.proofs.Feeding.Pieces.{ended_parts, few_lines}
use Rattle.cats_text.proofs.push_reader.PushReader.finish.Goals as goal

pub finish-requires : goal.finish-requires
finish-requires g c =
    let kept = c.self.invariant.taken c.in_default.is in
    search (rules, few_lines)

pub returns : goal.returns
returns g c =
    rw (← c.self.view_is, c.in_default.is)
    (ended_parts g.K.Keep.bids _ _ _ _ _ c.finish.result (c.self.invariant.taken c.in_default.is) c.finish.ensures)
