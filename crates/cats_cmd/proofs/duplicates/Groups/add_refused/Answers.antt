-- `Groups::add_refused`
use Rattle.cats_cmd.proofs.Common.{refl}
use Rattle.cats_cmd.proofs.Judging.{groups_heavy}
use Rattle.cats_cmd.proofs.duplicates.Groups.add_refused.Goals as goal

pub returns-in_ok-push-in-StepLimit : goal.returns-in_ok-push-in-StepLimit
returns-in_ok-push-in-StepLimit c =
    rw c.in-StepLimit.is (groups_heavy c.args.self.now _ c.args.path.now c.in_ok-path-in-StepLimit.path c.in_ok-number-in-StepLimit.number
    c.in_ok-path-in-StepLimit.ensures.items refl
    c.args.file.now c.requires c.in_ok-number-in-StepLimit.ensures.added c.in_ok-push-in-StepLimit.ensures.items)
