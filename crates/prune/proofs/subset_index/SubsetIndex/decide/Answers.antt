-- `SubsetIndex::decide`
use Rattle.prune.proofs.Common.{sym, atoms_of, plain_atom, length-atoms_of}
use Rattle.prune.proofs.subset_index.SubsetIndex.decide.Goals as goal

pub returns-in_ok-list_at_rarest-clause-index : goal.returns-in_ok-list_at_rarest-clause-index
returns-in_ok-list_at_rarest-clause-index g c =
    let kept = atoms_of g.S.GoodsSet.goods c.args.kept.now in
    rw c.if-is_none.ensures (c.in_ok-list_at_rarest.ensures kept (plain_atom g.S.GoodsSet.goods c.args.bid.now) (sym c.in_ok-goods.ensures)
    (sym (length-atoms_of g.S.GoodsSet.goods c.args.kept.now)) c.requires.index)
