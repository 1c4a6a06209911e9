-- `Walk::read_first`
use Rattle.cats_cmd.proofs.Common.{ap, ◌∙◌, with_slash}
use Rattle.cats_cmd.proofs.folder.Walk.read_first.Goals as goal

pub returns : goal.returns
returns g c = rw (c.as_slice-2.ensures.value ∙ c.in_ok-start.ensures ∙ ap with_slash c.as_bytes.ensures.value) at c.read.ensures
