-- `report_rounded_count`
use Rattle.cats_cmd.proofs.Common.{◌++◌, ◌∙◌, codes, decimal, escaped, rounded_words, zeroed_words}
use Rattle.cats_cmd.proofs.Gathering.{gathered_sent, gathers_then, gathers_three}
use Rattle.cats_cmd.proofs.priced_input.report_rounded_count.Goals as goal

pub returns : goal.returns
returns g c =
    let path = c.args.path.now in
    let rounded = c.args.rounded in
    let number = escaped path ++ codes ": " ++ decimal rounded.count in
    gathered_sent g.E.Write.contents _ _ _ _ _
    (gathers_then g.E.Write.contents (number ++ rounded_words rounded.count ++ zeroed_words rounded.zeroed) (codes "\n") _ _ _ _ _ _
    (gathers_then g.E.Write.contents (number ++ rounded_words rounded.count) (zeroed_words rounded.zeroed) _ _ _ _ _ _
    (gathers_then g.E.Write.contents number (rounded_words rounded.count) _ _ _ _ _ _
    (gathers_three g.E.Write.contents (escaped path) (codes ": ") (decimal rounded.count) _ _ _ _ _ _ _ _
    (rw c.new-line.ensures at c.push_escaped.ensures) c.push.ensures c.push_number.ensures)
    (rw (c.as_bytes.ensures.value ∙ c.rounded_words.ensures) at c.push-2.ensures)) c.push_zeroed.ensures) c.push-3.ensures)
    c.send.ensures.reports
