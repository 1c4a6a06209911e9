-- `rising`
use Rattle.analysis.proofs.Common.{ℕ, List, eqb, subst, IsPermutation, dedup_is}
use Rattle.analysis.proofs.Allocating.NamedBids.{rising_of}
use Rattle.analysis.proofs.winners.judging.rising.Goals as goal

pub returns : goal.returns
returns c =
    let sorted : List ℕ = c.sort_unstable.new.self.items in
    rising_of c.args.bids.now sorted c.dedup.new.self.items
    (subst (λ (ns : List ℕ). IsPermutation ns sorted) c.in_ok-winners.ensures.items c.sort_unstable.ensures.permutation) c.sort_unstable.ensures.sorted
    (dedup_is eqb sorted c.dedup.new.self.items c.dedup.ensures.filtered)
