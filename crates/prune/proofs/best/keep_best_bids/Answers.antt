-- `keep_best_bids`
use Rattle.prune.proofs.Common.{rules, filter_same, dedup_same, always_returns_same, ranks_by, IsPermutation-trans, plain_atom}
use Rattle.prune.proofs.BestBids.{is_bid_before, is_in_bundle, has_price, bid_cmp_total, best_from_steps}
use Rattle.prune.proofs.best.keep_best_bids.Goals as goal

pub returns-clause-best : goal.returns-clause-best
returns-clause-best g c =
    let goods = g.S.GoodsSet.goods in
    let priced = filter_same _ (λ a. has_price (plain_atom goods a)) _ (λ x b f k. search rules) _ _ c.retain.ensures.filtered in
    let sorted = c.sort_unstable_by.ensures.sorted (λ a b. is_bid_before (plain_atom goods a) (plain_atom goods b)) (ranks_by bid_cmp_total (plain_atom goods))
    (always_returns_same _ _ _ (λ a r f k. search rules)) in
    let best = dedup_same _ (λ a b. is_in_bundle (plain_atom goods a) (plain_atom goods b)) _ (λ x y b f x' y' k. search rules) _ _
    c.dedup_by.ensures.filtered in
    let moved = IsPermutation-trans _ _ _ c.put_in_order.ensures.permutation c.sort_unstable_by.ensures.permutation in
    best_from_steps (plain_atom goods) _ _ _ _ (λ a b. g.met.S.GoodsSet.inside_ordered a.bundle b.bundle) priced moved sorted best
