-- `bid_files_multiply`
use Rattle.rounding.proofs.Common.{ℕ, List, PlainFile, IsPlainFile, Spells, rounded_text, PriceRule, ◌^◌}
use Rattle.rounding.specs.Multiplied.{times_file}
use Rattle.rounding.proofs.RoundedFiles.{is_times, spells_times}
use Rattle.rounding.proofs.laws.bid_files_multiply.Goals as goal

pub returns-clause-file : goal.returns-clause-file
returns-clause-file c = λ (rule : PriceRule) (text : List ℕ) (f g : PlainFile) (s : Spells text f) (t : Spells (rounded_text rule text) g).
    is_times rule f text s g t

pub returns-clause-spells : goal.returns-clause-spells
returns-clause-spells c = λ (rule : PriceRule) (text : List ℕ) (f : PlainFile) (s : Spells text f) (facts : IsPlainFile (times_file (10 ^ rule.tens) f)).
    spells_times rule f text s facts
