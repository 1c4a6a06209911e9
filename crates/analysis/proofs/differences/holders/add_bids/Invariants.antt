-- `add_bids`
use Rattle.analysis.proofs.Common.{◌≡◌, ◌++◌, ℕ, List, map, take, filter, offers, holders_at, is_on, passed_in}
use Rattle.analysis.specs.Internal.Holders.{found_at}
use Rattle.analysis.proofs.differences.holders.add_bids.Given as goal

-- the bidder is added for each bid so far
abbrev pub invariant-loop-i : goal.invariant-loop-i
invariant-loop-i g l = record {
  indices : (bundle : List ℕ) → holders_at l.holders bundle
      ≡ holders_at l.initial.holders bundle ++ map (λ _. l.fn.index) (filter (is_on bundle) (offers (take l.i l.bidder)));
  passed : (bundle : List ℕ) → passed_in (found_at l.holders bundle) ≡ passed_in (found_at l.initial.holders bundle);
}
