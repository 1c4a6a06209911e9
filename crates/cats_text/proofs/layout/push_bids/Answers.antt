-- `push_bids`
use Rattle.cats_text.proofs.Common.{common_steps, ◌++◌, List, ℕ, arith, ap, ◌∙◌, LONGEST_LINE}
use Rattle.cats_text.proofs.Writing.BidTexts.{bids_text_on, bids_text_all}
use Rattle.cats_text.proofs.Writing.Ends.{rest_of}
use Rattle.cats_text.proofs.layout.push_bids.Goals as goal

pub loop-number-preserved : goal.loop-number-preserved
loop-number-preserved g c =
    let file = g.B.Bids.file c.args.file.now in
    let wrote = c.write_bid-start.ensures.written in
    bids_text_on file.goods file.bids c.loop-number.number wrote.0 _ _ _ wrote.1 c.loop-number.invariant
    (c.in_ok-extend_from_slice.ensures.items ∙ ap (λ (text : List ℕ). c.loop-number.out.items ++ text)
    (rest_of LONGEST_LINE c.write_bid-start.result c.write_bid-start.new.line (c.write_bid-start.auto.line ∙ c.loop-number-test.array_long) ∙ wrote.2))

pub returns : goal.returns
returns g c = grind (arith, common_steps, bids_text_all)
