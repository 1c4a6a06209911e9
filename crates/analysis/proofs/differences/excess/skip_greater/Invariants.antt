-- `skip_greater`
use Rattle.analysis.proofs.Common.{◌≡◌, ℕ, true, ◌<◌, ◌≤◌, map, is_lt, bidder_cmp, offers, bidder_at}
use Rattle.analysis.proofs.differences.excess.skip_greater.Given as goal

-- the others behind are greater
abbrev pub invariant-loop-end : goal.invariant-loop-end
invariant-loop-end g l = record {
  within : l.end ≤ l.fn.end;
  skipped : (index : ℕ) → l.end ≤ index → index < l.fn.end → is_lt (bidder_cmp (offers l.bidder) (bidder_at (map offers l.others) index)) ≡ true;
}

abbrev pub decreases-loop-end : goal.decreases-loop-end
decreases-loop-end g l = l.end
