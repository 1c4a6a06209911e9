-- `open_path`
use Rattle.cats_cmd.proofs.Common.{is_utf8-from_IsUtf8}
use Rattle.cats_cmd.proofs.Opening.{opens_broken}
use Rattle.cats_cmd.proofs.paths.open_path.Goals as goal

pub returns-in_default-clause-opens : goal.returns-in_default-clause-opens
returns-in_default-clause-opens g c = opens_broken _ _ _ _ c.args.path.now c.in_default.ensures.cases.0

pub returns-in-Ok-open-clause-opens : goal.returns-in-Ok-open-clause-opens
returns-in-Ok-open-clause-opens g c =
    rw (is_utf8-from_IsUtf8 c.args.path.now c.in-Ok.ensures.cases.1) (rw c.in-Ok.ensures.cases.0 at c.in-Ok-open.ensures.opens)

pub returns-in-Err-clause-opens : goal.returns-in-Err-clause-opens
returns-in-Err-clause-opens g c = rw (is_utf8-from_IsUtf8 c.args.path.now c.in-Ok.ensures.cases.1) (rw c.in-Ok.ensures.cases.0 at c.in-Err.ensures.opens)
