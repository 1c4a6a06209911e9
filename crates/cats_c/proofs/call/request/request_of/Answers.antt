-- `request_of`
use Rattle.std.proofs.Common.{◌≡◌, ◌∙◌, Some, ap, slice_get, sym}
use Rattle.std.proofs.lemmas.Option.{slice_get-get_or}
use Rattle.requests.specs.declared.task.TheConstants.{TASKS}
use Rattle.cats_c.proofs.call.request.request_of.Goals as goal

pub returns-in-Some : goal.returns-in-Some
returns-in-Some c =
    let looked_up = c.in-Some.ensures.lookup in
    let found = slice_get-get_or TASKS c.from.result c.in-Some.row.now looked_up.3.0 ∙ ap Some (sym looked_up.1) in
    let there : slice_get TASKS c.args.request.now.task ≡ Some c.in-Some.row.now = rw c.from.ensures at found in
    rw there c.request_by.ensures
