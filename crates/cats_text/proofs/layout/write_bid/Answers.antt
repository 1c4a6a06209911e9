-- `write_bid`
use Rattle.cats_text.proofs.Common.{common_steps, arith, seen_bid}
use Rattle.cats_text.proofs.Writing.Ends.{whole_line}
use Rattle.cats_text.proofs.Writing.Pieces.{bundle_within}
use Rattle.cats_text.proofs.layout.write_bid.Goals as goal

pub write_goods-end-requires-clause-space : goal.write_goods-end-requires-clause-space
write_goods-end-requires-clause-space g c =
    let few = bundle_within (g.B.Bids.file c.args.file.now) c.args.number (seen_bid c.at-bid.result) c.goods-goods.ensures.file c.at-bid.ensures in
    omega (arith, few, c.write_line_end-end.ensures.start, c.write_dummy-end.ensures.start.1)

pub write_number_and_price-requires-clause-space : goal.write_number_and_price-requires-clause-space
write_number_and_price-requires-clause-space g c =
    let few = bundle_within (g.B.Bids.file c.args.file.now) c.args.number (seen_bid c.at-bid.result) c.goods-goods.ensures.file c.at-bid.ensures in
    omega (arith, few, c.write_line_end-end.ensures.start, c.write_dummy-end.ensures.start.1, c.write_goods-end.ensures.start.1)

pub returns-clause-written : goal.returns-clause-written
returns-clause-written g c = grind (arith, common_steps, whole_line)
