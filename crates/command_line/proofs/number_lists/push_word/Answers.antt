-- `push_word`
use Rattle.command_line.proofs.Common.{◌∙◌, ℕ, List, ap, sym, all_numbers, ends_of, numbers_of_part, texts_of}
use Rattle.command_line.proofs.NumbersSoFar.{after, no_range, one_range}
use Rattle.command_line.proofs.number_lists.push_word.Goals as goal

pub loop-part-preserved : goal.loop-part-preserved
loop-part-preserved c =
    let ends = sym c.in-Some.is ∙ c.ends.ensures ∙ ap (ends_of c.args.most) (ap texts_of c.as_slice.ensures.value ∙ c.in_ok-split.ensures) in
    let more =
    one_range c.args.most c.loop-part.numbers.items c.as_slice-part-items.result.now c.loop-part.part-index _ c.loop-part-test.true c.in-Some.first
    c.in-Some.last ends c.push_range.new.numbers.items c.if-first-last.false c.in_ok-push_range.ensures.numbers in
    (c.loop-part.invariant.0 ∙ more, c.in_ok-push_range.ensures.marks)

pub returns-then-first-last-clause-numbers : goal.returns-then-first-last-clause-numbers
returns-then-first-last-clause-numbers c =
    let ends = sym c.in-Some.is ∙ c.ends.ensures ∙ ap (ends_of c.args.most) (ap texts_of c.as_slice.ensures.value ∙ c.in_ok-split.ensures) in
    let parts = ap texts_of c.as_slice-part-items.ensures.value ∙ c.in_ok-parts.ensures in
    sym (ap (λ (ps : List (List ℕ)). after c.args.numbers.now.items (all_numbers (numbers_of_part c.args.most) ps)) (sym parts) ∙ c.loop-part.invariant.0
    ∙ no_range c.args.most c.loop-part.numbers.items c.as_slice-part-items.result.now c.loop-part.part-index _ c.loop-part-test.true c.in-Some.first
    c.in-Some.last ends c.if-first-last.true)
