-- `places_of_faults`
use Rattle.commands.proofs.Common.{rules, refl}
use Rattle.std.specs.Fmt.{digits}
use Rattle.commands.proofs.fault.places_of_faults.Goals as goal

pub returns : goal.returns
unfolding digits
returns c = record {
  word = refl;
  long_word = refl;
  shown = search rules;
  end = refl;
  short = search rules;
}
