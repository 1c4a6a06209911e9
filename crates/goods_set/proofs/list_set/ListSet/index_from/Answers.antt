-- `ListSet::index_from`
use Rattle.goods_set.proofs.Common.{◌≡◌, ℕ, List, true, false, rules, ltb, sym, subst, IsPartitionPoint-from_clause, IsPartitionedBy}
use Rattle.goods_set.proofs.Common.{IsPartitionPoint}
use Rattle.goods_set.proofs.Places.{parted}
use Rattle.goods_set.proofs.list_set.ListSet.index_from.Goals as goal

pub returns-clause-fits : goal.returns-clause-fits
returns-clause-fits c = search rules

pub returns-clause-parts : goal.returns-clause-parts
returns-clause-parts c =
    let s = c.args.self.now in
    let xs : List ℕ = s.goods in
    let from : ℕ = c.args.from in
    let i : ℕ = c.partition_point.result in
    let split = subst (λ (ys : List ℕ). IsPartitionedBy (λ y. ltb y from) ys) (sym c.as_slice-goods.ensures) (parted xs from s.bundle.0) in
    subst (λ (ys : List ℕ). IsPartitionPoint (λ y. ltb y from ≡ true) (λ y. ltb y from ≡ false) ys i) c.as_slice-goods.ensures
    (IsPartitionPoint-from_clause (λ y. ltb y from) _ _ c.partition_point.ensures.partitioned split (λ a r q k. search rules))
