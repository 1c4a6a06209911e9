-- `xor_value`: the atoms before i were looked at: see proofs/FirstBestAtoms.
use Rattle.valuation.proofs.Common.{atoms_of}
use Rattle.valuation.proofs.FirstBestAtoms.{Scanned}
use Rattle.valuation.proofs.xor.xor_value.Given as goal

abbrev pub invariant-loop-i : goal.invariant-loop-i
invariant-loop-i g l =
    let goods = g.S.GoodsSet.goods in
    Scanned (atoms_of goods l.atoms) (goods l.bundle) l.i l.value l.index
