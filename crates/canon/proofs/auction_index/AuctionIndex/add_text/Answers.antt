-- `AuctionIndex::add_text`
use Rattle.canon.proofs.Common.{◌≡◌, ◌+◌, arith, subst, AddsText, TextIndex}
use Rattle.canon.proofs.TwoFiles.Indexing.{added_text, seen_texts}
use Rattle.canon.proofs.auction_index.AuctionIndex.add_text.Goals as goal

pub returns-clause-added : goal.returns-clause-added
returns-clause-added c =
    let counted : c.in-Some.count ≡ c.self.inside.count + 1 = grind (arith, c.in-Some.is, c.in-Some.ensures) in
    let new = c.number_text.new.numbers.entries in
    subst
    (λ (old : TextIndex). AddsText old (record { texts = seen_texts new; count = c.in-Some.count }) c.args.text.now c.in_ok-number.number)
    c.self.view_is
    (added_text c.self.inside.numbers.entries new c.self.inside.count c.in-Some.count c.in_ok-text.text.items c.args.text.now c.in_ok-number.number
    c.in_ok-text.ensures.items c.in_ok-number.ensures.answer c.in_ok-number.ensures.placed counted)
