-- `xor_value`: the atoms before i were looked at: see proofs/FirstBestAtoms.
use Rattle.valuation.proofs.Common.{rules, arith, sym, ◌∙◌, ◌≡◌, ◌<◌, ◌⊎◌, inl, inr, None, length, both_ways, ltb-true, ltb-false, atoms_of, length-atoms_of}
use Rattle.valuation.proofs.Common.{get_or-atoms_of, atom_at}
use Rattle.valuation.proofs.FirstBestAtoms.{Scanned-take, Scanned-outside, Scanned-no_better, Scanned-value, Scanned-index, Scanned-none, none_is, some_is}
use Rattle.valuation.proofs.xor.xor_value.Goals as goal
use Rattle.valuation.proofs.xor.xor_value.Goals.{then-is_none, else-is_none, then-value-atom+then-is_inside, else-value-atom}
use Rattle.valuation.proofs.xor.xor_value.Goals.{else-value-atom-via-then-value-atom+else-is_inside, else-value-atom-via-else-value-atom}

pub loop-i-preserved : goal.loop-i-preserved
loop-i-preserved g c =
    let goods = g.S.GoodsSet.goods in
    let a = c.index-atoms-i.result in
    let here : atom_at (atoms_of goods c.args.atoms.now) c.loop-i.i ≡ record { bundle = goods a.bundle; price = a.price } =
    get_or-atoms_of goods c.args.atoms.now c.loop-i.i a _ c.loop-i-test.true c.index-atoms-i.is in
    let in_list : c.loop-i.i < length (atoms_of goods c.args.atoms.now) = omega (arith, length-atoms_of goods c.args.atoms.now, c.loop-i-test.true) in
    elim c.if-value-atom.branch [
      | then-value-atom+then-is_inside w ↦
          let better : (c.loop-i.index ≡ None) ⊎ (c.loop-i.value < a.price) =
          elim c.if-is_none.branch [
            | then-is_none v ↦ inl (none_is c.loop-i.index v.if-is_none.ensures)
            | else-is_none v ↦ inr (ltb-true c.loop-i.value a.price (sym v.value-is ∙ w.if-value-atom.true))
          ] in
          let taken = Scanned-take _ _ _ _ _ c.loop-i.invariant in_list (rw here (sym w.is_inside.ensures ∙ w.if-is_inside.true)) (rw here better) in
          rw (w.value-is, w.index-is) (rw here at taken)
      | else-value-atom w ↦ rw (w.value-is, w.index-is) (elim w.else-value-atom.branch [
        | else-value-atom-via-then-value-atom+else-is_inside w' ↦ Scanned-outside _ _ _ _ _ c.loop-i.invariant in_list
            (rw here (sym w'.is_inside.ensures ∙ w'.if-is_inside.false))
        | else-value-atom-via-else-value-atom w' ↦ Scanned-no_better _ _ _ _ _ c.loop-i.invariant in_list
            (λ none. elim c.if-is_none.branch [
              | then-is_none v ↦ both_ways _ (sym v.value-is ∙ w'.if-value-atom.false) v.if-is_none.true
              | else-is_none v ↦ some_is c.loop-i.index v.if-is_none.ensures none
            ])
            (rw here (elim c.if-is_none.branch [
              | then-is_none v ↦ absurd (both_ways _ (sym v.value-is ∙ w'.if-value-atom.false) v.if-is_none.true)
              | else-is_none v ↦ ltb-false c.loop-i.value a.price (sym v.value-is ∙ w'.if-value-atom.false)
            ]))
      ])
    ]

pub returns-clause-value : goal.returns-clause-value
returns-clause-value g c = search (rules, Scanned-value, length-atoms_of)

pub returns-clause-index : goal.returns-clause-index
returns-clause-index g c = search (rules, Scanned-index, length-atoms_of)

pub returns-clause-none : goal.returns-clause-none
returns-clause-none g c = search (rules, Scanned-none, length-atoms_of)
