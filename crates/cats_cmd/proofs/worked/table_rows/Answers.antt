-- `table_rows`
use Rattle.cats_cmd.proofs.Common.{refl}
use Rattle.std.specs.Fmt.{digits}
use Rattle.std.specs.Char.{encode_utf8}
use Rattle.cats_cmd.proofs.worked.table_rows.Goals as goal

pub returns-clause-heavy : goal.returns-clause-heavy
unfolding digits encode_utf8
returns-clause-heavy c = λ goods are. rw are refl

pub returns-clause-refused : goal.returns-clause-refused
unfolding digits encode_utf8
returns-clause-refused c = refl

pub returns-clause-reported : goal.returns-clause-reported
unfolding digits encode_utf8
returns-clause-reported c = refl
