-- `explanation_text`
use Rattle.commands.proofs.Common.{◌≡◌, ◌++◌, map, flat_map, range_with_len, bid_at, plain_reason, reason_at, explanation_header, explanation_row}
use Rattle.commands.proofs.explain.explanation_text.Given as goal

-- the header and the rows of the bids so far are printed
abbrev pub invariant-loop-number : goal.invariant-loop-number
invariant-loop-number l = l.text.items ≡ explanation_header
    ++ flat_map (λ i. explanation_row i (bid_at l.file i) (reason_at (map plain_reason l.reasons) i)) (range_with_len 0 l.number)
