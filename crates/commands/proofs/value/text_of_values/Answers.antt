-- `text_of_values`
use Rattle.commands.proofs.Common.{arith, ◌<◌, ap, ◌∙◌, All-weaker, PlainAuction}
use Rattle.commands.proofs.Bundling.{below_none_missing}
use Rattle.commands.proofs.Printing.{places_within}
use Rattle.commands.proofs.value.text_of_values.Goals as goal

pub bundle_of-requires : goal.bundle_of-requires
bundle_of-requires g c =
    let cap = c.requires.cap in
    All-weaker (λ x. x < c.args.file.now.goods) (λ x. x < g.S.GoodsSet.CAP) (λ x below. omega (arith, cap)) c.args.goods.now
    (below_none_missing c.args.file.now.goods c.args.goods.now c.requires.there)

pub push_or_line-requires : goal.push_or_line-requires
push_or_line-requires g c =
    places_within _ c.args.file.now.bids _ _ _ c.in_ok-packing.ensures.members (ap (λ (a : PlainAuction). a.or_atoms) c.in_ok-auction.ensures)
    (c.as_slice.ensures.value ∙ c.in_ok-numbers.ensures.or)
