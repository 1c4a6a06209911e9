-- `first_dominating`: none of the atoms before dominates the bid: one that does is the first, and else there is none.
use Rattle.prune.proofs.Common.{common_steps, ◌≡◌, ◌<◌, ◌≤◌, false, length, sym, ap, ◌∙◌, ⊎_elim, true, arith, cases_lt, get_or-atoms_of, length-atoms_of}
use Rattle.prune.proofs.Common.{atoms_of, dominates, dominates_at, first_in_range, none_in_range}
use Rattle.prune.proofs.xor.first_dominating.Goals as goal

pub returns-then-is_dominated_by : goal.returns-then-is_dominated_by
returns-then-is_dominated_by g c =
    let goods = g.S.GoodsSet.goods in
    let atoms = c.args.atoms.now in
    let bundle = goods c.args.bid.now.bundle in
    let price = c.args.bid.now.price in
    let i = c.loop-index.index in
    let is : dominates_at (atoms_of goods atoms) bundle price i ≡ true =
    ap (dominates bundle price) (get_or-atoms_of goods atoms i c.index-atoms-index.result _ c.loop-index-test.true c.index-atoms-index.is)
    ∙ sym c.is_dominated_by.ensures ∙ c.if-is_dominated_by.true in
    sym (first_in_range (dominates_at (atoms_of goods atoms) bundle price) (length (atoms_of goods atoms)) i
    (omega (arith, c.loop-index-test.true, length-atoms_of goods atoms)) is c.loop-index.invariant)

pub loop-index-preserved : goal.loop-index-preserved
loop-index-preserved g c = λ k l.
    let goods = g.S.GoodsSet.goods in
    let atoms = c.args.atoms.now in
    let bundle = goods c.args.bid.now.bundle in
    let price = c.args.bid.now.price in
    let i = c.loop-index.index in
    let is : dominates_at (atoms_of goods atoms) bundle price i ≡ false =
    ap (dominates bundle price) (get_or-atoms_of goods atoms i c.index-atoms-index.result _ c.loop-index-test.true c.index-atoms-index.is)
    ∙ sym c.is_dominated_by.ensures ∙ c.if-is_dominated_by.false in
    ⊎_elim (λ (m : k < i). c.loop-index.invariant k m)
    (λ (m : i ≤ k). let e : k ≡ i = omega arith in ap (dominates_at (atoms_of goods atoms) bundle price) e ∙ is)
    (cases_lt k i)

pub returns : goal.returns
returns g c = grind (arith, common_steps, none_in_range, length-atoms_of)
