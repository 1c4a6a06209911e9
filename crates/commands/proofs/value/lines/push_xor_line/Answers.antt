-- `push_xor_line`
use Rattle.commands.proofs.Common.{sym, ◌∙◌, on_ok_weaker, length-atoms_of, atoms_of}
use Rattle.commands.proofs.BestPlaces.{place_of_best, place_within}
use Rattle.commands.proofs.Printing.{appended, xor_line_made}
use Rattle.commands.proofs.value.lines.push_xor_line.Goals as goal

pub push_bid-requires : goal.push_bid-requires
push_bid-requires g c =
    let goods = g.S.GoodsSet.goods in
    place_within (atoms_of goods c.args.atoms.now) (goods c.args.bundle.now) c.args.numbers.now _ c.xor_value-value.ensures.index
    (c.requires ∙ sym (length-atoms_of goods c.args.atoms.now))

pub returns : goal.returns
returns g c =
    let atoms = atoms_of g.S.GoodsSet.goods c.args.atoms.now in
    let bundle = g.S.GoodsSet.goods c.args.bundle.now in
    let found = c.xor_value-value.ensures in
    on_ok_weaker c.extend_from_slice-3.result
    (λ last. xor_line_made c.args.good c.from.result _ atoms c.args.numbers.now bundle c.args.text.now.items _ _ _ _ _ _ (c.from.ensures ∙ found.value)
    (place_of_best atoms bundle _ found.index found.none.0)
    c.in_ok-extend_from_slice.ensures.items c.in_ok-push_spaced.ensures c.in_ok-extend_from_slice-2.ensures.items c.in_ok-push_price.ensures
    c.in_ok-push_bid.ensures last)
    (appended c.extend_from_slice-3.result _ _ _ c.extend_from_slice-3.ensures.items)
