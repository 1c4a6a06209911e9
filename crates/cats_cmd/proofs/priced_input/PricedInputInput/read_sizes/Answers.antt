-- `PricedInputInput::read_sizes`
use Rattle.cats_cmd.proofs.Common.{err_from_is_err_and}
use Rattle.cats_cmd.proofs.RoundedReaders.{finishing_memory_on_no_line, rounded_memory_on_no_line}
use Rattle.cats_cmd.proofs.priced_input.PricedInputInput.read_sizes.Goals as goal

pub returns-in_err-reader-clause-memory : goal.returns-in_err-reader-clause-memory
returns-in_err-reader-clause-memory g c =
    let reported = err_from_is_err_and c.from_residual.result c.from_residual.ensures.1 in
    rw reported.1 (rw reported.2 (rounded_memory_on_no_line g.R.Read.remaining _ _ _ c.in_err-reader.field-0.0 c.in_err-reader.ensures))

pub returns-in_err-header-clause-memory : goal.returns-in_err-header-clause-memory
returns-in_err-header-clause-memory g c =
    let reported = err_from_is_err_and c.from_residual-in_err-header.result c.from_residual-in_err-header.ensures.1 in
    rw reported.1 (rw reported.2
    (finishing_memory_on_no_line _ c.in_ok-reader.reader c.in_err-header.field-0.0 c.in_ok-reader.ensures.ends.works c.in_err-header.ensures))
