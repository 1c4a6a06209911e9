-- `paths_escaped`
use Rattle.cats_cmd.proofs.Common.{refl}
use Rattle.std.specs.Char.{encode_utf8}
use Rattle.cats_cmd.proofs.worked.paths_escaped.Goals as goal

pub returns-clause-printable : goal.returns-clause-printable
unfolding encode_utf8
returns-clause-printable c = refl

pub returns-clause-controls : goal.returns-clause-controls
unfolding encode_utf8
returns-clause-controls c = refl

pub returns-clause-directions : goal.returns-clause-directions
unfolding encode_utf8
returns-clause-directions c = refl

pub returns-clause-unseen : goal.returns-clause-unseen
unfolding encode_utf8
returns-clause-unseen c = refl

pub returns-clause-broken : goal.returns-clause-broken
unfolding encode_utf8
returns-clause-broken c = refl
