-- `escaped_path_is_read_back`
use Rattle.cats_cmd.proofs.PrintableTexts.{bytes_from, printable}
use Rattle.cats_cmd.proofs.ReadingBack.{harmless, read_back}
use Rattle.cats_cmd.proofs.laws.escaped_path_is_read_back.Goals as goal

pub returns-clause-back : goal.returns-clause-back
returns-clause-back c = read_back

pub returns-clause-harmless : goal.returns-clause-harmless
returns-clause-harmless c = harmless

pub returns-clause-printable : goal.returns-clause-printable
returns-clause-printable c = λ path bytes. printable path (bytes_from path bytes)
