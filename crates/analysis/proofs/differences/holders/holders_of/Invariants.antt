-- `holders_of`
use Rattle.analysis.proofs.Common.{◌≡◌, ℕ, List, map, take, offers, bidders_on, holders_at, passed_in}
use Rattle.analysis.specs.Internal.Holders.{found_at}
use Rattle.analysis.proofs.differences.holders.holders_of.Given as goal

-- the bidders so far are listed
abbrev pub invariant-loop-index : goal.invariant-loop-index
invariant-loop-index g l = record {
  indices : (bundle : List ℕ) → holders_at l.holders bundle ≡ bidders_on (map offers l.bidders) (take l.index-index l.indices) bundle;
  passed : (bundle : List ℕ) → passed_in (found_at l.holders bundle) ≡ 0;
}
