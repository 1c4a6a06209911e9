-- The rows of bids, one by one, as `cats explain` prints them.
use Rattle.commands.proofs.Common.{◌≡◌, ◌<◌, ◌+◌, ◌++◌, ℕ, List, length, map, get_or, sym, ap, ◌∙◌, flat_map, range_with_len, get_or-map, PlainBid, PlainFile}
use Rattle.commands.proofs.Common.{bid_at, Zero, plain_reason, reason_at, Reason, explanation_row}
use Rattle.commands.proofs.Lines.{lines_more}

-- the row of one more bid is put behind those of the bids before it
pub row_of_bid : (file : PlainFile) (reasons : List Reason) (i : ℕ) (bid : PlainBid) (reason : Reason) → i < length reasons
    → reason ≡ get_or reasons i reason → bid ≡ bid_at file i → (header before after : List ℕ)
    → before ≡ header ++ flat_map (λ j. explanation_row j (bid_at file j) (reason_at (map plain_reason reasons) j)) (range_with_len 0 i)
    → after ≡ before ++ explanation_row i bid (plain_reason reason)
    → after ≡ header ++ flat_map (λ j. explanation_row j (bid_at file j) (reason_at (map plain_reason reasons) j)) (range_with_len 0 (i + 1))
row_of_bid file reasons i bid reason within is_reason is_bid header before after so_far more =
    let own : plain_reason reason ≡ reason_at (map plain_reason reasons) i =
    ap plain_reason is_reason ∙ sym (get_or-map plain_reason reasons i reason Zero within) in
    rw (more, so_far, is_bid, own) (lines_more (λ j. explanation_row j (bid_at file j) (reason_at (map plain_reason reasons) j)) header i)
