-- `has_mends`
use Rattle.rounding.proofs.Common.{ℕ, List, ◌+◌, ◌-◌, ◌≤◌, ltb, length, take, drop, refl, sym, ap, ◌∙◌, arith, line_words, blank_returns, is_significant}
use Rattle.rounding.proofs.TextLines.{IsCut, at_most, cut_line, one_or_none}
use Rattle.rounding.proofs.MendedLines.{needless_more, need_found, none_needed}
use Rattle.rounding.specs.Layouts.{has_mends, needs_mending}
use Rattle.rounding.proofs.mend.has_mends.Goals as goal

pub loop-start-preserved : goal.loop-start-preserved
loop-start-preserved c =
    let text : List ℕ = c.args.text.now in
    let start : ℕ = c.loop-start.start in
    let count : ℕ = c.line_length.result in
    let line : List ℕ = take (start + count - start) (drop start text) in
    let cut : IsCut text line start (start + count) c.min-start.result (ltb (start + count) (length text)) =
    cut_line text line start count c.min-start.result c.loop-start-test.true c.line_length.ensures.count refl c.min-start.ensures in
    let small : c.from-before.result ≤ 1 = at_most c.is_significant.result c.from-before.result c.from-before.ensures in (
      omega (arith, c.min-start.ensures, c.loop-start-test.true),
      omega (arith, c.min-start.ensures, c.loop-start-test.true, c.loop-start.invariant.1, small),
      needless_more text start c.min-start.result c.loop-start.before c.loop-start-test.true cut.next_is (has_mends text) c.loop-start.invariant.2
          c.from-before.result c.is_significant.result
          (ap (needs_mending c.loop-start.before) (sym cut.line_is) ∙ sym c.needs_mending.ensures ∙ c.if-needs_mending.false)
          (c.is_significant.ensures ∙ ap (λ (l : List ℕ). is_significant (line_words (blank_returns l))) cut.line_is)
          (one_or_none c.is_significant.result c.from-before.result c.from-before.ensures),
    )

pub returns-then-needs_mending : goal.returns-then-needs_mending
returns-then-needs_mending c =
    let text : List ℕ = c.args.text.now in
    let start : ℕ = c.loop-start.start in
    let count : ℕ = c.line_length.result in
    let line : List ℕ = take (start + count - start) (drop start text) in
    let cut : IsCut text line start (start + count) _ (ltb (start + count) (length text)) =
    cut_line text line start count _ c.loop-start-test.true c.line_length.ensures.count refl refl in
    need_found text start _ c.loop-start.before c.loop-start-test.true cut.next_is (has_mends text) c.loop-start.invariant.2
    (ap (needs_mending c.loop-start.before) (sym cut.line_is) ∙ sym c.needs_mending.ensures ∙ c.if-needs_mending.true)

pub returns : goal.returns
returns c = none_needed c.args.text.now c.loop-start.start c.loop-start.before (has_mends c.args.text.now) (omega (arith, c.loop-start-test.false))
    c.loop-start.invariant.2
