-- `compare_bidders`
use Rattle.canon.proofs.Common.{rules, ◌+◌, drop, sym, ◌∙◌, arith, atoms_of, bidder_cmp, length-atoms_of, then-decided, then-left, slice_cmp-ended}
use Rattle.canon.proofs.Common.{bidder_cmp-drop}
use Rattle.canon.proofs.normal.atom_order.compare_bidders.Goals as goal

pub returns-then-is_ne : goal.returns-then-is_ne
returns-then-is_ne g c =
    let goods = g.S.GoodsSet.goods in
    let some = c.args.one.now in
    let other = c.args.other.now in
    let i = c.loop-i.i in
    let later = bidder_cmp (drop (i + 1) (atoms_of goods some)) (drop (i + 1) (atoms_of goods other)) in
    let turn = bidder_cmp-drop goods some other i c.index-one-i.result c.index-other-i.result (omega arith) (omega arith) c.index-one-i.is c.index-other-i.is in
    let differ = rw c.compare_atoms-atoms.ensures at (sym c.is_ne.ensures ∙ c.if-is_ne.true) in
    c.compare_atoms-atoms.ensures ∙ sym (then-decided _ later differ) ∙ sym turn ∙ c.loop-i.invariant

pub loop-i-preserved : goal.loop-i-preserved
loop-i-preserved g c =
    let goods = g.S.GoodsSet.goods in
    let some = c.args.one.now in
    let other = c.args.other.now in
    let i = c.loop-i.i in
    let later = bidder_cmp (drop (i + 1) (atoms_of goods some)) (drop (i + 1) (atoms_of goods other)) in
    let turn = bidder_cmp-drop goods some other i c.index-one-i.result c.index-other-i.result (omega arith) (omega arith) c.index-one-i.is c.index-other-i.is in
    let same = rw c.compare_atoms-atoms.ensures at (sym c.is_ne.ensures ∙ c.if-is_ne.false) in
    sym (then-left _ later same) ∙ sym turn ∙ c.loop-i.invariant

pub returns : goal.returns
returns g c = search (rules, length-atoms_of, slice_cmp-ended)
