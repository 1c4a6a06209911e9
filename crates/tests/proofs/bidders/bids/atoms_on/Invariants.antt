-- `atoms_on`
use Rattle.std.proofs.Common.{All}
use Rattle.bid_file.specs.declared.limits.TheConstants.{MAX_GOODS}
use Rattle.valuation.specs.Auctions.{IsAtom}
use Rattle.valuation.specs.Values.{atoms_of}
use Rattle.tests.proofs.bidders.bids.atoms_on.Given as goal

abbrev pub invariant-loop-bid : goal.invariant-loop-bid
invariant-loop-bid g l = All (IsAtom MAX_GOODS) (atoms_of g.S.GoodsSet.goods l.atoms.items)
