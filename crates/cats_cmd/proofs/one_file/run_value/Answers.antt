-- `run_value`: A plain search has a step for each packing, and is refused exactly if it may be.
use Rattle.cats_cmd.proofs.Common.{value_outcome}
use Rattle.cats_cmd.proofs.Sending.{file_run}
use Rattle.valuation.specs.ValueLimits.{most_value_steps}
use Rattle.cats_cmd.proofs.one_file.run_value.Goals as goal

pub returns : goal.returns
unfolding most_value_steps
returns g c =
    file_run _ _ _ (value_outcome c.args.goods.now c.args.limit) _ _ _ _ c.value-answer.result (rw c.plain.ensures at c.value-answer.ensures) _
    c.send_answer.ensures
