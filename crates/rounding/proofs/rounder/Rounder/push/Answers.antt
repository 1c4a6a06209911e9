-- `Rounder::push`
use Rattle.rounding.proofs.Common.{ℕ, List, ◌+◌, ◌-◌, ltb, length, take, drop, refl, ap, ◌∙◌, arith, has_line_end}
use Rattle.rounding.proofs.TextLines.{IsCut, cut_line}
use Rattle.rounding.proofs.Pieces.{first_line_unended, line_cut_off, line_rounded, nothing_rounded}
use Rattle.rounding.proofs.rounder.Rounder.push.Goals as goal

pub loop-start-init : goal.loop-start-init
loop-start-init c = (omega arith, nothing_rounded _ _ _ _ c.requires refl)

pub take_line-requires-clause-within : goal.take_line-requires-clause-within
take_line-requires-clause-within c =
    let piece : List ℕ = c.args.piece.now in
    let start : ℕ = c.loop-start.start in
    let cut : IsCut piece _ start (start + c.line_length.result) _ _ =
    cut_line piece _ start c.line_length.result _ c.loop-start-test.true c.line_length.ensures.count refl refl in
    ap has_line_end cut.line_is ∙ first_line_unended (drop start piece)

pub loop-start-preserved : goal.loop-start-preserved
loop-start-preserved c =
    let piece : List ℕ = c.args.piece.now in
    let start : ℕ = c.loop-start.start in
    let count : ℕ = c.line_length.result in
    let line : List ℕ = take (start + count - start) (drop start piece) in
    let cut : IsCut piece line start (start + count) c.min-start.result (ltb (start + count) (length piece)) =
    cut_line piece line start count c.min-start.result c.loop-start-test.true c.line_length.ensures.count refl c.min-start.ensures in (
      omega (arith, c.min-start.ensures, c.loop-start-test.true),
      line_rounded _ _ _ piece (drop start piece) _ (drop c.min-start.result piece) _ _ _
          (line_cut_off (drop start piece) line (drop c.min-start.result piece) (ltb (start + count) (length piece)) cut.line_is cut.ended_is cut.next_is)
          c.loop-start.invariant.1 c.in_ok-take_line.ensures,
    )
