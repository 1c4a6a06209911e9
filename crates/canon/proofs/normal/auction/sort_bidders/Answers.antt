-- `sort_bidders`
use Rattle.canon.proofs.Common.{rules, always_returns_same, ranks_by, is_lt, keyed_bidder, numbered_cmp}
use Rattle.canon.proofs.CanonicalFiles.Bidders.{bidders_sorted}
use Rattle.canon.proofs.CanonicalFiles.Numbering.{numbered_cmp_total}
use Rattle.canon.proofs.normal.auction.sort_bidders.Goals as goal

pub returns : goal.returns
returns g c =
    bidders_sorted keyed_bidder _ _ c.sort_unstable_by.ensures.permutation
    (c.sort_unstable_by.ensures.sorted (λ a b. is_lt (numbered_cmp (keyed_bidder a) (keyed_bidder b)))
    (ranks_by numbered_cmp_total keyed_bidder) (always_returns_same _ _ _ (λ a r f k. search rules)))
