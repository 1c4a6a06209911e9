-- `bid_numbers`
use Rattle.commands.proofs.Common.{◌≡◌, map, take, range_with_len, lists_of, or_numbers, xor_numbers}
use Rattle.commands.proofs.value.numbers.bid_numbers.Given as goal

-- the numbers of the bids so far are there
abbrev pub invariant-loop-number : goal.invariant-loop-number
invariant-loop-number l =
    let bids = take l.number l.file.bids in
    record { or : l.or_bids.items ≡ or_numbers bids; xor : lists_of l.xor_bids.items ≡ map (xor_numbers bids) (range_with_len 0 l.file.dummy) }
