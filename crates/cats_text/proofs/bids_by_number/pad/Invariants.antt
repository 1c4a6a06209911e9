-- `pad`
use Rattle.cats_text.proofs.Common.{◌+◌, ◌-◌, length, ℕ, IsPadded, AreWithin}
use Rattle.cats_text.proofs.bids_by_number.pad.Given as goal

abbrev pub invariant-loop-arrivals : goal.invariant-loop-arrivals
invariant-loop-arrivals l = record {
  padded : IsPadded l.fn.arrivals.items l.arrivals.items l.number;
  within : (n : ℕ) → AreWithin n l.fn.arrivals.items → AreWithin n l.arrivals.items;
}

abbrev pub decreases-loop-arrivals : goal.decreases-loop-arrivals
decreases-loop-arrivals l = l.number + 1 - length l.arrivals.items
