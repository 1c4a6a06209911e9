-- `PackedFile::to_file`: each turn makes the next bid, with a vector of its goods.
use Rattle.std.proofs.Common.{rules, ◌≡◌, ◌∙◌, List, ℕ, Some, ap, arith, length, sym}
use Rattle.std.proofs.lemmas.List.{map_push, take_all}
use Rattle.std.specs.List.{slice_get}
use Rattle.bid_file.specs.declared.bid.Bid.{Bid}
use Rattle.bid_file.specs.Files.{IsBidFile, PlainBid, PlainFile, plain_bid, plain_bids}
use Rattle.bid_file.proofs.Spans.{take_bid}
use Rattle.bid_file.proofs.packed.PackedFile.to_file.Goals as goal

pub loop-number-preserved : goal.loop-number-preserved
loop-number-preserved c =
    let file : PlainFile = c.args.self.now in
    let i = c.loop-number.number in
    let bid : PlainBid = record { price = c.at-price.result.0; goods = c.at-price.result.1.now; dummy = c.at-price.result.2 } in
    let stands : slice_get file.bids i ≡ Some bid = rw (← c.bids-held.ensures) c.at-price.ensures in
    let made : Bid = record { price = c.at-price.result.0; goods = c.in_ok-goods.goods; dummy = c.at-price.result.2 } in
    let same : plain_bid made ≡ bid =
    ap (λ (goods : List ℕ). record { price = bid.price; goods = goods; dummy = bid.dummy }) (c.in_ok-goods.ensures.items_if_clones_equal (λ x y e. e)) in
    ap plain_bids c.in_ok-push.ensures.items ∙ map_push plain_bid c.loop-number.bids.items made
    ∙ rw (c.loop-number.invariant, same) (sym (take_bid file.bids i bid stands))

pub new-requires : goal.new-requires
new-requires c =
    let file : PlainFile = c.args.self.now in
    let all : plain_bids c.loop-number.bids.items ≡ file.bids = c.loop-number.invariant
    ∙ take_all c.loop-number.number file.bids (omega (arith, c.len-number-end.ensures, ap length c.bids-held.ensures, c.loop-number-test.false)) in
    let facts : IsBidFile file.goods file.dummy file.bids = c.goods-goods.ensures.file in
    rw (all, c.goods-goods.ensures.value, c.dummy-dummy.ensures) facts

pub loop-number-init : goal.loop-number-init
loop-number-init c = search rules
