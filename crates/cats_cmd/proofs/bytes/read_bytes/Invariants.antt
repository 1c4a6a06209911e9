-- `read_bytes`
use Rattle.cats_cmd.proofs.Common.{◌≡◌, ◌<◌, ◌≤◌, ◌+◌, ◌-◌, length, false, Consumes, MAX_STREAM, inner_of, has_ended, has_failed}
use Rattle.cats_cmd.proofs.bytes.read_bytes.Given as goal

-- the bytes that came so far are kept
abbrev pub invariant-loop-text : goal.invariant-loop-text
invariant-loop-text g l = record {
  came : Consumes (g.R.Read.remaining (inner_of l.fn.input)) (g.R.Read.remaining (inner_of l.input)) l.text.items;
  within : length l.text.items ≤ MAX_STREAM;
  device : has_failed l.input ≡ false;
  fresh : has_ended l.input ≡ false;
  not_empty : 0 < length l.piece;
}

abbrev pub decreases-loop-text : goal.decreases-loop-text
decreases-loop-text g l = (MAX_STREAM + 1) - length l.text.items
