-- `carry_out`
use Rattle.cats_cmd.proofs.Common.{rules}
use Rattle.cats_cmd.proofs.CarryingOut.{carried_pair, pair_texts}
use Rattle.requests.specs.Requests.{plain_request}
use Rattle.cats_cmd.proofs.carrying_out.carry_out.Goals as goal

pub returns-in-len2-clause-carries : goal.returns-in-len2-clause-carries
returns-in-len2-clause-carries g c =
    carried_pair _ _ _ _ _ _ _ _ _ _ (plain_request c.args.request.now) _ _ _ _ _ _ _ (search rules)
    (pair_texts _ c.as_slice-in-Two.result.now _ c.as_slice-in-Two.ensures.value c.in-len2.len_at_least c.in-len2.len_below) c.carry_out_on_two.ensures.carries
