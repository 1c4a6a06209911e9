-- `paths_reported`
use Rattle.cats_cmd.proofs.Common.{refl}
use Rattle.std.specs.Char.{encode_utf8}
use Rattle.std.specs.Fmt.{digits}
use Rattle.cats_cmd.proofs.worked.paths_reported.Goals as goal

pub returns-clause-progress : goal.returns-clause-progress
unfolding digits encode_utf8
returns-clause-progress c = refl

pub returns-clause-rounded : goal.returns-clause-rounded
unfolding digits encode_utf8
returns-clause-rounded c = λ goods are. rw are refl

pub returns-clause-terminal : goal.returns-clause-terminal
unfolding digits encode_utf8
returns-clause-terminal c = refl
