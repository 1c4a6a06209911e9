-- `compare_files`: the two parts of each file's bids are those of its auction, so what the walks over them answer is the first difference of the
-- auctions: a bundle of the OR bidders, or else the least XOR bidder.
use Rattle.canon.proofs.Common.{rules, ◌≡◌, arith, auction_from}
use Rattle.canon.proofs.TwoFiles.Comparisons.{or_found, xor_found, or_named, xor_named, same_by_difference, same_if_ok}
use Rattle.canon.proofs.Walks.OrWalks.{on_err}
use Rattle.canon.proofs.comparing.comparison.compare_files.Goals as goal

pub returns-in-Some-clause-difference : goal.returns-in-Some-clause-difference
returns-in-Some-clause-difference g c =
    let a = auction_from (g.B.Bids.file c.args.left.now) in
    let b = auction_from (g.B.Bids.file c.args.right.now) in
    let e : a.goods ≡ b.goods = omega (arith, c.goods.ensures.value, c.goods-2.ensures.value, c.if-goods.false) in
    or_found a b e c.in_ok-verdict.field-0 c.in-Some.verdict c.in-Some.is
    (c.in_ok-verdict.ensures.verdict a b c.split_bids-left_or.ensures.or_bids c.split_bids-right_or.ensures.or_bids e)

pub returns-in-Some-clause-same : goal.returns-in-Some-clause-same
returns-in-Some-clause-same g c = search (rules, same_by_difference, returns-in-Some-clause-difference)

pub returns-in-None-clause-difference : goal.returns-in-None-clause-difference
returns-in-None-clause-difference g c =
    let a = auction_from (g.B.Bids.file c.args.left.now) in
    let b = auction_from (g.B.Bids.file c.args.right.now) in
    let e : a.goods ≡ b.goods = omega (arith, c.goods.ensures.value, c.goods-2.ensures.value, c.if-goods.false) in
    xor_found a b e c.in_ok-verdict.field-0 c.in-None.is
    (c.in_ok-verdict.ensures.verdict a b c.split_bids-left_or.ensures.or_bids c.split_bids-right_or.ensures.or_bids e) c.bidder_verdict.result
    (c.bidder_verdict.ensures.verdict a b c.split_bids-left_or.ensures.xor_bids c.split_bids-right_or.ensures.xor_bids)

pub returns-in-None-clause-same : goal.returns-in-None-clause-same
returns-in-None-clause-same g c =
    same_if_ok (g.B.Bids.file c.args.left.now) (g.B.Bids.file c.args.right.now) c.goods.ensures.file c.goods-2.ensures.file c.bidder_verdict.result
    (returns-in-None-clause-difference g c)

pub returns-in_err-verdict-clause-memory : goal.returns-in_err-verdict-clause-memory
returns-in_err-verdict-clause-memory g c =
    let a = auction_from (g.B.Bids.file c.args.left.now) in
    let b = auction_from (g.B.Bids.file c.args.right.now) in
    let e : a.goods ≡ b.goods = omega (arith, c.goods.ensures.value, c.goods-2.ensures.value, c.if-goods.false) in
    on_err _ (or_named a b e (c.in_err-verdict.ensures.memory a b c.split_bids-left_or.ensures.or_bids c.split_bids-right_or.ensures.or_bids e))

pub returns-in-None-clause-memory : goal.returns-in-None-clause-memory
returns-in-None-clause-memory g c =
    let a = auction_from (g.B.Bids.file c.args.left.now) in
    let b = auction_from (g.B.Bids.file c.args.right.now) in
    let e : a.goods ≡ b.goods = omega (arith, c.goods.ensures.value, c.goods-2.ensures.value, c.if-goods.false) in
    xor_named a b e c.in_ok-verdict.field-0 c.in-None.is
    (c.in_ok-verdict.ensures.verdict a b c.split_bids-left_or.ensures.or_bids c.split_bids-right_or.ensures.or_bids e) c.bidder_verdict.result
    (c.bidder_verdict.ensures.memory a b c.split_bids-left_or.ensures.xor_bids c.split_bids-right_or.ensures.xor_bids)
