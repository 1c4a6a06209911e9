-- `bid_numbers`: the lists hold the numbers of the bids so far, bidder by bidder, and the next bid's number is put at the end of its bidder's list
-- (proofs/Numbering).
use Rattle.commands.proofs.Common.{arith, ◌<◌, [], take, refl, sym, ◌∙◌, get_or_from_slice_get, slice_get_within, PlainBid, PlainFile, seen_bid, IsBid-there}
use Rattle.commands.proofs.Common.{xor_numbers}
use Rattle.commands.proofs.Numbering.{number-or, number-xor, or_numbers-same, xor_numbers-same, length-lists_of}
use Rattle.commands.proofs.ByNumber.{by_number-replicate}
use Rattle.commands.proofs.value.numbers.bid_numbers.Goals as goal
use Rattle.commands.proofs.value.numbers.bid_numbers.Goals.{in-None+in_ok-push-in-None, in-Some+in_ok-push-in-Some}

pub loop-number-init : goal.loop-number-init
loop-number-init c =
    record {
      or = c.new-or_bids.ensures.items;
      xor = c.in_ok-xor_bids.ensures ∙ rw c.dummy.ensures (by_number-replicate (xor_numbers []) [] c.args.file.now.dummy (λ k. refl));
    }

pub index_mut-bidder-requires : goal.index_mut-bidder-requires
index_mut-bidder-requires c =
    let file : PlainFile = c.args.file.now in
    let bid : PlainBid = seen_bid c.at.result in
    let facts = IsBid-there file.goods file.dummy file.bids c.loop-number.number bid c.requires.each c.at.ensures in
    let below : c.in-Some.dummy < file.dummy = rw c.in-Some.is at facts.dummy in
    let long = length-lists_of c.loop-number.xor_bids.items (take c.loop-number.number file.bids) file.dummy c.loop-number.invariant.xor in
    omega (arith, c.loop-number.xor_bids.ok.0)

pub loop-number-preserved : goal.loop-number-preserved
loop-number-preserved c =
    let file : PlainFile = c.args.file.now in
    let bids = file.bids in
    let i = c.loop-number.number in
    let b : PlainBid = seen_bid c.at.result in
    let here = get_or_from_slice_get bids i b b c.at.ensures in
    let in_list = slice_get_within bids i b c.at.ensures in
    let facts = IsBid-there file.goods file.dummy bids i b c.requires.each c.at.ensures in
    elim c.match-at.branch [
      | in-None+in_ok-push-in-None w ↦
          record {
            or = rw w.or_bids-is (number-or bids i b in_list here _ _ w.in-None.is c.loop-number.invariant.or w.in_ok-push-in-None.ensures.items);
            xor = rw w.xor_bids-is (c.loop-number.invariant.xor ∙ sym (xor_numbers-same bids i b in_list here w.in-None.is _));
          }
      | in-Some+in_ok-push-in-Some w ↦
          let below : w.in-Some.dummy < file.dummy = rw w.in-Some.is at facts.dummy in
          record {
            or = rw w.or_bids-is (c.loop-number.invariant.or ∙ sym (or_numbers-same bids i b in_list here w.in-Some.dummy w.in-Some.is));
            xor = rw w.xor_bids-is (number-xor bids i b in_list here c.loop-number.xor_bids.items _ w.index_mut-bidder.result.now w.push-in-Some.new.self
                w.in-Some.dummy file.dummy w.in-Some.is below c.loop-number.invariant.xor w.index_mut-bidder.ensures.value
                w.in_ok-push-in-Some.ensures.items refl);
          }
    ]
