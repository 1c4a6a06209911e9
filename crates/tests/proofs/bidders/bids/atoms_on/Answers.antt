-- `atoms_on`
use Rattle.bid_file.specs.declared.limits.TheConstants.{MAX_GOODS}
use Rattle.valuation.specs.Auctions.{IsAtom}
use Rattle.valuation.specs.Lemmas.Atoms.{All-atoms_of-push}
use Rattle.tests.proofs.bidders.bids.atoms_on.Goals as goal

pub loop-bid-preserved : goal.loop-bid-preserved
loop-bid-preserved g c =
    All-atoms_of-push g.S.GoodsSet.goods (IsAtom MAX_GOODS) _ _ _ c.in_ok-push.ensures.items c.loop-bid.invariant c.in_ok-atom_on_set.ensures
