-- `RoundedReader::finish`
use Rattle.cats_cmd.proofs.Common.{refl, err_from_is_err_and}
use Rattle.cats_cmd.proofs.RoundedReaders.{ended_before, ended_refused}
use Rattle.cats_cmd.proofs.rounded_reader.RoundedReader.finish.Goals as goal

pub returns-in-Some : goal.returns-in-Some
returns-in-Some g c = λ rule bytes has. ended_before rule bytes c.in-Some.fault (rw c.in-Some.is at has)

pub returns-in_err-pass_on-in-Ok : goal.returns-in_err-pass_on-in-Ok
returns-in_err-pass_on-in-Ok g c = λ rule bytes has.
    let reported = err_from_is_err_and c.from_residual.result c.from_residual.ensures.1 in
    rw (reported.1, reported.2)
    (ended_refused rule bytes c.args.self (record {
      rounder = c.args.self.rounder;
      reader = c.args.self.reader;
      rounded = c.finish.new.rounded;
      count = c.args.self.count;
      fault = c.args.self.fault;
    }) c.clear.new.self c.in_default.is has refl c.clear.ensures.text c.in-Ok.ensures
    c.pass_on.new.self c.in_err-pass_on-in-Ok.field-0.0 c.in_err-pass_on-in-Ok.ensures)
