-- `few_digits`: the first byte that is no digit is found by its flag; the digits before it, moved up, are worth what they spell.
use Rattle.cats_text.proofs.Common.{arith, take, sym, ◌∙◌, lanes_are, first_other, shifted_is, eight_at, word_at}
use Rattle.cats_text.proofs.eight.few_digits.Goals as goal

pub returns-clause-count : goal.returns-clause-count
returns-clause-count c =
    let bytes = c.args.bytes.now in
    let eight = eight_at bytes 0 (λ k. (c.type_inv.bytes k).fits) (omega (arith, c.requires)) in
    let is = c.first_eight-lanes.ensures ∙ word_at bytes 0 (omega (arith, c.requires)) in
    sym (first_other (take 8 bytes) _ eight is _ c.flags_from_ten-others.ensures (omega (arith, c.if-others-eq0.false))).0

pub returns-clause-value : goal.returns-clause-value
returns-clause-value c =
    let bytes = c.args.bytes.now in
    let eight = eight_at bytes 0 (λ k. (c.type_inv.bytes k).fits) (omega (arith, c.requires)) in
    let is = c.first_eight-lanes.ensures ∙ word_at bytes 0 (omega (arith, c.requires)) in
    let first = first_other (take 8 bytes) _ eight is _ c.flags_from_ten-others.ensures (omega (arith, c.if-others-eq0.false)) in
    let s = shifted_is (take 8 bytes) _ c.keep_first.result eight (omega (arith, first.0)) (omega arith)
    (c.keep_first.ensures ∙ rw (lanes_are (take 8 bytes) _ eight is)) in
    c.value_of_eight.ensures s.0 s.1 s.2 ∙ s.3

pub returns-then-count-eq0-clause-count : goal.returns-then-count-eq0-clause-count
returns-then-count-eq0-clause-count c =
    let bytes = c.args.bytes.now in
    let eight = eight_at bytes 0 (λ k. (c.type_inv.bytes k).fits) (omega (arith, c.requires)) in
    let is = c.first_eight-lanes.ensures ∙ word_at bytes 0 (omega (arith, c.requires)) in
    let first = first_other (take 8 bytes) _ eight is _ c.flags_from_ten-others.ensures (omega (arith, c.if-others-eq0.false)) in
    sym c.if-count-eq0.true ∙ sym first.0
