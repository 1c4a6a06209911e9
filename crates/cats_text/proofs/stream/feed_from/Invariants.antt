-- `feed_from`
use Rattle.cats_text.proofs.Common.{◌≡◌, ◌<◌, ◌+◌, ◌-◌, length, false, None, Consumes, MAX_STREAM, fed_fault, inner_of, has_failed}
use Rattle.cats_text.proofs.stream.feed_from.Given as goal

abbrev pub invariant-loop-count : goal.invariant-loop-count
invariant-loop-count g l = record {
  limit : l.push_reader.limit ≡ MAX_STREAM;
  working : l.push_reader.failed ≡ None;
  no_fault : fed_fault MAX_STREAM l.push_reader.bytes ≡ None;
  came : Consumes (g.R.Read.remaining (inner_of l.fn.input)) (g.R.Read.remaining (inner_of l.input)) l.push_reader.bytes;
  device : has_failed l.input ≡ false;
  space : 0 < length l.piece;
}

abbrev pub decreases-loop-count : goal.decreases-loop-count
decreases-loop-count g l = (MAX_STREAM + 1) - length l.push_reader.bytes
