-- `read_rounded`
use Rattle.cats_cmd.proofs.Common.{◌<◌, ◌+◌, ◌-◌, length, MAX_STREAM}
use Rattle.cats_cmd.proofs.RoundedReaders.{HasRead}
use Rattle.cats_cmd.proofs.rounded_reader.read_rounded.Given as goal

-- the bytes that came so far were taken
abbrev pub invariant-loop-reader : goal.invariant-loop-reader
invariant-loop-reader g l = HasRead g.R.Read.remaining l.fn.rule l.fn.input l.input l.length l.reader × (0 < length l.piece)

abbrev pub decreases-loop-reader : goal.decreases-loop-reader
decreases-loop-reader g l = (MAX_STREAM + 1) - l.length
