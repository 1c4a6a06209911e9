-- `run_on_files`
use Rattle.cats_cmd.proofs.Common.{◌∙◌, ap, inr, map, paths_in, refl, rules}
use Rattle.cats_cmd.proofs.AnswersOfRequests.{fault_status_above}
use Rattle.cats_cmd.proofs.RunsOfLists.{list_run}
use Rattle.cats_cmd.proofs.Storing.{wrote_nothing}
use Rattle.cats_cmd.proofs.many_files.run_on_files.Goals as goal

pub returns-in_ok-paths-in-Ok-clause-runs : goal.returns-in_ok-paths-in-Ok-clause-runs
returns-in_ok-paths-in-Ok-clause-runs g c =
    rw c.in-Some.is (list_run _ _ _ _ _ _ c.in-Some.list.now c.in-Ok.text.items c.in-Ok.ensures.read _
    (ap (map (λ path. path.now)) c.as_slice-in-Ok-2.ensures.value ∙ c.in_ok-paths-in-Ok.ensures ∙ ap paths_in c.as_slice-in-Ok.ensures.value)
    _ _ _ _ _ (rw (c.in-Ok.ensures.opens.stays, c.in-Ok.ensures.unwritten, c.many_files-many.ensures, c.in-Some.is) at c.run_at_paths-in-Ok.ensures.runs))

-- memory was refused for the paths in the list
pub returns-in_err-paths-in-Ok-clause-runs : goal.returns-in_err-paths-in-Ok-clause-runs
returns-in_err-paths-in-Ok-clause-runs g c =
    rw c.in-Some.is (list_run _ _ _ _ _ _ c.in-Some.list.now c.in-Ok.text.items c.in-Ok.ensures.read _ refl _ _ _ _ _
    (inr (search rules, refl, refl, rw c.in-Ok.ensures.unwritten (wrote_nothing _))))

pub returns-in-Err-clause-opens : goal.returns-in-Err-clause-opens
returns-in-Err-clause-opens g c =
    rw c.in-Some.is (record {
      between = c.read_list.new.source;
      opens = c.in-Err.ensures.opens;
      rest = inr (rw c.refuse_list.ensures.status (fault_status_above c.in-Err.fault), refl);
    })
