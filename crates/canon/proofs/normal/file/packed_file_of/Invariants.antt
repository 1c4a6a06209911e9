-- `packed_file_of`: the bids so far, and those of the bidders still to come, are the bids of the file.
use Rattle.canon.proofs.Common.{◌≡◌, ◌++◌, drop, bidders_of, plain_auction, dummy_bids, file_from}
use Rattle.canon.proofs.normal.file.packed_file_of.Given as goal

abbrev pub invariant-loop-dummy : goal.invariant-loop-dummy
invariant-loop-dummy g l = l.bids ++ dummy_bids l.dummy (drop l.dummy (bidders_of g.S.GoodsSet.goods l.bidders)) ≡ (file_from (plain_auction l.auction)).bids
