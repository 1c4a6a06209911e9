-- `first_dominating_among`
-- None of the atoms listed before dominates the bid, and the next one does not either, or it is the first that does; indices that rise
-- are no longer among the atoms once one is not.
use Rattle.prune.proofs.Common.{rules, length, get_or, arith, length-map, atoms_of, Posting, dominates_at, indices_of}
use Rattle.prune.proofs.FirstDominating.{NonePass-more, none_before}
use Rattle.prune.proofs.ListedAtoms.{index_of, indices_get}
use Rattle.prune.proofs.subset_index.first_dominating_among.Goals as goal

pub loop-posting-preserved : goal.loop-posting-preserved
loop-posting-preserved g c = search (rules, indices_get, NonePass-more)

pub returns-then-is_dominating-clause-none : goal.returns-then-is_dominating-clause-none
returns-then-is_dominating-clause-none g c =
    let goods = g.S.GoodsSet.goods in
    let d : Posting = record { index = 0; fingerprint = 0 } in
    let listed = c.args.postings.now in
    let i = c.loop-posting.posting-index in
    let at = indices_get listed i d c.loop-posting-test.true in
    none_before (dominates_at (atoms_of goods c.args.kept.now) (goods c.args.bundle.now) c.args.price) (indices_of listed) (length c.args.kept.now) i
    (get_or listed i d).index c.requires.rising (omega (arith, c.if-index-kept.false)) (λ l. omega (arith, at.1)) c.loop-posting.invariant

pub returns-then-index-kept-clause-none : goal.returns-then-index-kept-clause-none
returns-then-index-kept-clause-none g c =
    let goods = g.S.GoodsSet.goods in
    let d : Posting = record { index = 0; fingerprint = 0 } in
    let listed = c.args.postings.now in
    let i = c.loop-posting.posting-index in
    let at = indices_get listed i d c.loop-posting-test.true in
    none_before (dominates_at (atoms_of goods c.args.kept.now) (goods c.args.bundle.now) c.args.price) (indices_of listed) (length c.args.kept.now) i
    (length c.args.kept.now) c.requires.rising (omega arith) (λ l. omega (arith, at.1, c.if-index-kept.true)) c.loop-posting.invariant

pub returns-after-loop-posting-clause-none : goal.returns-after-loop-posting-clause-none
returns-after-loop-posting-clause-none g c =
    let goods = g.S.GoodsSet.goods in
    let listed = c.args.postings.now in
    let long = length-map listed index_of in
    none_before (dominates_at (atoms_of goods c.args.kept.now) (goods c.args.bundle.now) c.args.price) (indices_of listed) (length c.args.kept.now)
    c.loop-posting.posting-index (length c.args.kept.now) c.requires.rising (omega arith)
    (λ l. absurd (omega (arith, long, c.loop-posting-test.false))) c.loop-posting.invariant
