-- `has_bid_line`
use Rattle.rounding.proofs.Common.{ℕ, List, ◌+◌, ◌-◌, ◌≤◌, ltb, length, take, drop, refl, ap, ◌∙◌, arith, line_words, blank_returns, is_significant}
use Rattle.rounding.proofs.FileLines.{line_counted, none_counted}
use Rattle.rounding.proofs.TextLines.{IsCut, at_most, cut_line, one_or_none}
use Rattle.rounding.proofs.text.has_bid_line.Goals as goal

pub loop-start-init : goal.loop-start-init
loop-start-init c = (omega arith, omega arith, none_counted c.args.text.now)

pub loop-start-preserved : goal.loop-start-preserved
loop-start-preserved c =
    let text : List ℕ = c.args.text.now in
    let start : ℕ = c.loop-start.start in
    let count : ℕ = c.line_length.result in
    let cut : IsCut text (take (start + count - start) (drop start text)) start (start + count) c.min-start.result (ltb (start + count) (length text)) =
    cut_line text (take (start + count - start) (drop start text)) start count c.min-start.result c.loop-start-test.true c.line_length.ensures.count refl
    c.min-start.ensures in
    let small : c.from-count.result ≤ 1 = at_most c.is_significant.result c.from-count.result c.from-count.ensures in (
      omega (arith, c.min-start.ensures, c.loop-start-test.true),
      omega (arith, c.min-start.ensures, c.loop-start-test.true, c.loop-start.invariant.1, small),
      line_counted text start c.min-start.result c.loop-start.count c.from-count.result c.is_significant.result c.loop-start-test.true cut.next_is
          (c.is_significant.ensures ∙ ap (λ (l : List ℕ). is_significant (line_words (blank_returns l))) cut.line_is)
          (one_or_none c.is_significant.result c.from-count.result c.from-count.ensures) c.loop-start.invariant.2,
    )
