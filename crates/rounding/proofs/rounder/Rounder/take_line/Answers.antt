-- `Rounder::take_line`
use Rattle.rounding.proofs.Common.{on_ok_weaker, refl, true, line_end}
use Rattle.rounding.proofs.Pieces.{held_alone, held_before}
use Rattle.rounding.proofs.rounder.Rounder.take_line.Goals as goal

pub returns-then-ended : goal.returns-then-ended
returns-then-ended c =
    rw c.if-ended.true
    (on_ok_weaker c.end_line.result
    (held_before c.args.self.now _ c.args.bytes.now refl refl refl c.in_ok-extend_from_slice.ensures.items (line_end true) _ _ _)
    c.end_line.ensures)

pub returns-else-ended : goal.returns-else-ended
returns-else-ended c =
    rw c.if-ended.false
    (held_alone c.args.self.now _ c.args.bytes.now refl refl refl c.in_ok-extend_from_slice.ensures.items _ c.requires.holds c.requires.within)
