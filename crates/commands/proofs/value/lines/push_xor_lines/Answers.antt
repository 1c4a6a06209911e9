-- `push_xor_lines`: the text so far has the lines of the bidders before; the next bidder's atoms and numbers are as many, and its line is put behind.
use Rattle.commands.proofs.Common.{arith, ◌≡◌, ◌<◌, ◌+◌, ℕ, List, length, sym, ap, ◌∙◌, PlainFile, Atom, length-atoms_of, atoms_of, length-bidders_of}
use Rattle.commands.proofs.Numbering.{length-xor_numbers, list_at}
use Rattle.commands.proofs.Printing.{bidder_at, line_added}
use Rattle.commands.proofs.value.lines.push_xor_lines.Goals as goal

pub push_xor_line-requires : goal.push_xor_line-requires
push_xor_line-requires g c =
    let goods = g.S.GoodsSet.goods in
    let file : PlainFile = c.args.file.now in
    let d = c.loop-dummy.dummy in
    let long = length-bidders_of goods c.args.bidders.now file.bids file.dummy c.requires.bidders in
    let below : d < c.args.file.now.dummy = omega (arith, c.loop-dummy-test.true) in
    let numbers = list_at c.args.numbers.now file.bids file.dummy d c.index-numbers-dummy.result c.requires.numbers below c.index-numbers-dummy.is in
    let atoms = bidder_at goods c.args.bidders.now file.bids file.dummy d c.index-bidders-dummy.result c.requires.bidders below c.index-bidders-dummy.is in
    ap (length {A = ℕ}) (c.as_slice-bids.ensures.value ∙ numbers) ∙ length-xor_numbers file.bids d ∙ ap (length {A = Atom (List ℕ)}) (sym atoms)
    ∙ length-atoms_of goods c.index-bidders-dummy.result.items ∙ sym (ap length c.as_slice.ensures.value)

pub loop-dummy-preserved : goal.loop-dummy-preserved
loop-dummy-preserved g c =
    let goods = g.S.GoodsSet.goods in
    let file : PlainFile = c.args.file.now in
    let d = c.loop-dummy.dummy in
    let long = length-bidders_of goods c.args.bidders.now file.bids file.dummy c.requires.bidders in
    let below : d < c.args.file.now.dummy = omega (arith, c.loop-dummy-test.true) in
    let numbers = list_at c.args.numbers.now file.bids file.dummy d c.index-numbers-dummy.result c.requires.numbers below c.index-numbers-dummy.is in
    let atoms = bidder_at goods c.args.bidders.now file.bids file.dummy d c.index-bidders-dummy.result c.requires.bidders below c.index-bidders-dummy.is in
    line_added file (goods c.args.bundle.now) c.args.text.now.items c.loop-dummy.text.items _ d _ _ _ c.loop-dummy.invariant c.in_ok-push_xor_line.ensures
    (ap (λ (m : ℕ). m + d) (c.from-goods.ensures ∙ c.goods.ensures.value)) (ap (atoms_of goods) c.as_slice.ensures.value ∙ atoms) (c.as_slice-bids.ensures.value
    ∙ numbers)

pub returns : goal.returns
returns g c =
    let goods = g.S.GoodsSet.goods in
    let file : PlainFile = c.args.file.now in
    let long = length-bidders_of goods c.args.bidders.now file.bids file.dummy c.requires.bidders in
    let all : c.loop-dummy.dummy ≡ c.args.file.now.dummy = omega (arith, c.loop-dummy-test.false) in
    rw (← all) c.loop-dummy.invariant
