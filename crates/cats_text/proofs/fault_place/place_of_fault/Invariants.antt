-- `place_of_fault`
use Rattle.cats_text.proofs.Common.{◌+◌, ◌≤◌, length, raw_lines, blank_returns, seen}
use Rattle.cats_text.proofs.Texts.FirstPlaces.{IsBehind}
use Rattle.cats_text.proofs.fault_place.place_of_fault.Given as goal

abbrev pub invariant-loop-rest : goal.invariant-loop-rest
invariant-loop-rest l = record {
  behind : IsBehind l.text l.number (raw_lines (blank_returns l.rest)) (seen l.parser);
  count : l.number + length l.rest ≤ 1 + length l.text;
}

abbrev pub decreases-loop-rest : goal.decreases-loop-rest
decreases-loop-rest l = length l.rest
