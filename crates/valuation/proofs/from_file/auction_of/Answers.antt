-- `auction_of`: each turn of the loop puts one atom at its end (proofs/Placing), and what was placed from all bids is the auction of the file,
-- whose limits follow from those of the file.
use Rattle.valuation.proofs.Common.{rules, arith, ◌<◌, take, refl, sym, ◌∙◌, get_or_from_slice_get, slice_get_within, AreBelow-higher, PlainBid, PlainFile}
use Rattle.valuation.proofs.Common.{seen_bid, Atom, IsBid-there, or_atoms_of-same, xor_bidders-same, IsAuction-auction_from}
use Rattle.valuation.proofs.Placing.{place-or, place-xor, placed, no_bids, length-bidders_of}
use Rattle.valuation.proofs.from_file.auction_of.Goals as goal
use Rattle.valuation.proofs.from_file.auction_of.Goals.{in-None+in_ok-push-in-None, in-Some+in_ok-push-in-Some}

pub loop-number-init : goal.loop-number-init
loop-number-init g c = search (rules, no_bids)

pub from_slice-requires-clause-rising : goal.from_slice-requires-clause-rising
from_slice-requires-clause-rising g c =
    let file : PlainFile = g.B.Bids.file c.args.file.now in
    let bid : PlainBid = seen_bid c.at-bid.result in
    let facts = IsBid-there file.goods file.dummy file.bids c.loop-number.number bid c.goods-goods.ensures.file.each c.at-bid.ensures in
    facts.rising

pub from_slice-requires-clause-below : goal.from_slice-requires-clause-below
from_slice-requires-clause-below g c =
    let file : PlainFile = g.B.Bids.file c.args.file.now in
    let bid : PlainBid = seen_bid c.at-bid.result in
    let facts = IsBid-there file.goods file.dummy file.bids c.loop-number.number bid c.goods-goods.ensures.file.each c.at-bid.ensures in
    AreBelow-higher _ _ bid.goods c.requires facts.below

pub index_mut-bidder-requires : goal.index_mut-bidder-requires
index_mut-bidder-requires g c =
    let file : PlainFile = g.B.Bids.file c.args.file.now in
    let bid : PlainBid = seen_bid c.at-bid.result in
    let facts = IsBid-there file.goods file.dummy file.bids c.loop-number.number bid c.goods-goods.ensures.file.each c.at-bid.ensures in
    let below : c.in-Some.dummy < file.dummy = rw c.in-Some.is at facts.dummy in
    let long = length-bidders_of g.S.GoodsSet.goods c.loop-number.xor_bidders.items (take c.loop-number.number file.bids) file.dummy
    c.loop-number.invariant.xor in
    omega (arith, c.loop-number.xor_bidders.ok.0)

pub loop-number-preserved : goal.loop-number-preserved
loop-number-preserved g c =
    let goods = g.S.GoodsSet.goods in
    let file : PlainFile = g.B.Bids.file c.args.file.now in
    let bids = file.bids in
    let i = c.loop-number.number in
    let bid : PlainBid = seen_bid c.at-bid.result in
    let facts = IsBid-there file.goods file.dummy bids i bid c.goods-goods.ensures.file.each c.at-bid.ensures in
    let here = get_or_from_slice_get bids i bid bid c.at-bid.ensures in
    let in_list = slice_get_within bids i bid c.at-bid.ensures in
    let atom : Atom _ = record { bundle = c.in_ok-from_slice.field-0; price = c.at-bid.result.price } in
    let bundle = c.in_ok-from_slice.ensures in
    elim c.match-bid.branch [
      | in-None+in_ok-push-in-None w ↦
          record {
            or = rw w.or_atoms-is (place-or goods bids i bid in_list here atom bundle refl _ _ w.in-None.is c.loop-number.invariant.or
                w.in_ok-push-in-None.ensures.items);
            xor = rw w.xor_bidders-is (c.loop-number.invariant.xor ∙ sym (xor_bidders-same bids i bid in_list here w.in-None.is _));
          }
      | in-Some+in_ok-push-in-Some w ↦
          let below : w.in-Some.dummy < file.dummy = rw w.in-Some.is at facts.dummy in
          record {
            or = rw w.or_atoms-is (c.loop-number.invariant.or ∙ sym (or_atoms_of-same bids i bid in_list here w.in-Some.dummy w.in-Some.is));
            xor = rw w.xor_bidders-is (place-xor goods bids i bid in_list here atom bundle refl c.loop-number.xor_bidders.items _
                w.index_mut-bidder.result.now _ w.in-Some.dummy file.dummy w.in-Some.is below c.loop-number.invariant.xor
                w.index_mut-bidder.ensures.value w.in_ok-push-in-Some.ensures.items refl);
          }
    ]

pub new-requires : goal.new-requires
new-requires g c =
    let file : PlainFile = g.B.Bids.file c.args.file.now in
    let all = IsAuction-auction_from g.S.GoodsSet.CAP file c.goods-goods.ensures.file c.requires in
    let same = placed g.S.GoodsSet.goods file file.bids c.loop-number.number c.goods-goods.result
    c.loop-number.or_atoms.items c.loop-number.xor_bidders.items refl (omega (
      arith,
      c.len-number-end.ensures,
      c.loop-number-test.false,
    )) c.goods-goods.ensures.value c.loop-number.invariant.or c.loop-number.invariant.xor in
    rw same all
