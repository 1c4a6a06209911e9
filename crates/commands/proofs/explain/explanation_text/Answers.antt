-- `explanation_text`
use Rattle.commands.proofs.Common.{[], None, sym, get_or_from_slice_get, seen_bid, explanation_header}
use Rattle.commands.proofs.Explanations.{row_of_bid}
use Rattle.commands.proofs.explain.explanation_text.Goals as goal

pub loop-number-preserved : goal.loop-number-preserved
loop-number-preserved c =
    let bids = c.args.file.now.bids in
    let i = c.loop-number.number in
    let bid = get_or_from_slice_get bids i (seen_bid c.at.result) (record { price = 0; goods = []; dummy = None }) c.at.ensures in
    row_of_bid c.args.file.now c.args.reasons.now i (seen_bid c.at.result) c.index-reasons-number.result c.loop-number-test.true
    c.index-reasons-number.is (sym bid) explanation_header _ _ c.loop-number.invariant c.in_ok-push_row.ensures
