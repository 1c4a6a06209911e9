-- `canonical_bidders`: the bidders are put in order with their numbers, which does not change the order of their atoms.
use Rattle.canon.proofs.Common.{rules, List, map, ap, ◌∙◌, bidders_of, sort_by, NumberedBidder, numbered_cmp}
use Rattle.canon.proofs.CanonicalFiles.Numbering.{atoms_in_order}
use Rattle.canon.proofs.normal.auction.canonical_bidders.Goals as goal

pub returns-clause-bidders : goal.returns-clause-bidders
returns-clause-bidders g c = λ m are.
    c.in_ok-bidders.ensures ∙ ap (map (λ (b : NumberedBidder). b.atoms)) c.sort_bidders.ensures
    ∙ ap (λ (bs : List NumberedBidder). map (λ b. b.atoms) (sort_by numbered_cmp bs)) (c.in_ok-keyed.ensures.points m are)
    ∙ atoms_in_order m (bidders_of g.S.GoodsSet.goods c.args.bidders.items)

pub returns-clause-dummies : goal.returns-clause-dummies
returns-clause-dummies g c = search rules

pub returns-clause-fates : goal.returns-clause-fates
returns-clause-fates g c = search rules
