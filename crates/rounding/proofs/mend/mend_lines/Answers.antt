-- `mend_lines`
use Rattle.rounding.proofs.Common.{ℕ, List, ◌+◌, ◌-◌, ltb, length, take, drop, refl, ap, ◌∙◌, arith, RawLine, lines_text, ◌++◌, has_line_end}
use Rattle.rounding.proofs.TextLines.{IsCut, cut_line, first_raw}
use Rattle.rounding.proofs.MendedLines.{line_more, all_mended}
use Rattle.rounding.proofs.mend.mend_lines.Goals as goal

pub loop-start-preserved : goal.loop-start-preserved
loop-start-preserved c =
    let text : List ℕ = c.args.text.now in
    let start : ℕ = c.loop-start.start in
    let count : ℕ = c.line_length.result in
    let line : List ℕ = take (start + count - start) (drop start text) in
    let cut : IsCut text line start (start + count) c.min-start.result (ltb (start + count) (length text)) =
    cut_line text line start count c.min-start.result c.loop-start-test.true c.line_length.ensures.count refl c.min-start.ensures in
    let l : RawLine = record { bytes = line; ended = ltb (start + count) (length text) } in (
      omega (arith, c.min-start.ensures, c.loop-start-test.true),
      omega (arith, c.min-start.ensures, c.loop-start-test.true, c.loop-start.invariant.1),
      omega (arith, c.min-start.ensures, c.loop-start-test.true, c.loop-start.invariant.2, c.in_ok-before.ensures.few),
      line_more text start c.min-start.result c.loop-start.number c.loop-start.before c.in_ok-before.before l
          c.loop-start.mended.text.items c.mend_line.new.self.text.items c.loop-start.mended.mends.items c.mend_line.new.self.mends.items
          c.loop-start-test.true
          (ap (λ (bytes : List ℕ). record { bytes = bytes; ended = ltb (start + count) (length text) }) cut.line_is
          ∙ ap (λ e. record { bytes = (first_raw (drop start text)).bytes; ended = e }) cut.ended_is)
          cut.next_is c.in_ok-before.ensures.text c.in_ok-before.ensures.mends c.in_ok-before.ensures.before c.loop-start.invariant.3,
    )
