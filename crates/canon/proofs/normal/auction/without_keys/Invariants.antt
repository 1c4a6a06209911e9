-- `without_keys`: the bidders that are done and those still to come are all bidders; those done are there, without what was beside them.
use Rattle.canon.proofs.Common.{◌≡◌, ◌++◌, map, into_iter_items}
use Rattle.canon.proofs.normal.auction.without_keys.Given as goal

abbrev pub invariant-loop-bidder : goal.invariant-loop-bidder
invariant-loop-bidder g l =
    record {
      all : l.fn.keyed.items ≡ l.yielded ++ into_iter_items l.bidder-iterator;
      bidders : l.bidders.items ≡ map (λ b. b.atoms) l.yielded;
    }
