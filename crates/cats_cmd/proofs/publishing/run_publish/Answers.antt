-- `run_publish`
use Rattle.cats_cmd.proofs.Common.{◌≡◌, ◌∙◌, [], ap, inl, inr, map, option_map, paths_in, refl, rules, texts_of, unwrap_or}
use Rattle.cats_cmd.proofs.AnswersOfRequests.{fault_status_above}
use Rattle.cats_cmd.proofs.PublishRuns.{folder_if, opens_placed, published}
use Rattle.cats_cmd.proofs.RunsOfLists.{list_run}
use Rattle.cats_cmd.proofs.Storing.{wrote_nothing}
use Rattle.cats_cmd.proofs.publishing.run_publish.Goals as goal

pub returns-in_default-clause-runs : goal.returns-in_default-clause-runs
returns-in_default-clause-runs g c =
    let into : c.unwrap_or-folder.result.now ≡ unwrap_or (option_map (λ f. f.now) c.args.request.now.folder) [] =
    ap (λ folder. folder.now) c.unwrap_or-folder.ensures ∙ folder_if c.args.request.now.folder _ refl in
    rw c.in_default.is (published _ _ _ _ _ _ _ _ _ _ _ _ _ _ _ _ _ _ _ _ _ _ c.in_ok-places.ensures.places
    (ap (map (λ path. path.now)) c.as_slice-in_default.ensures.value ∙ c.in_ok-paths.ensures ∙ ap texts_of c.as_slice.ensures.value)
    (rw (c.many_files-many.ensures, c.as_slice-in_default-2.ensures.value, into) at
    c.publish_into.ensures.runs))

pub returns-in_default-clause-opens : goal.returns-in_default-clause-opens
returns-in_default-clause-opens g c =
    rw c.in_default.is (opens_placed _ _ _ _ _ _ _ _ _ _ (rw (c.many_files-many.ensures, c.in_default.is) at c.in_ok-places.ensures.openings)
    (ap (map (λ path. path.now)) c.as_slice-in_default.ensures.value ∙ c.in_ok-paths.ensures ∙ ap texts_of c.as_slice.ensures.value)
    (rw c.as_slice-in_default-2.ensures.value at c.publish_into.ensures.opens))

-- memory was refused for the paths in the list
pub returns-in_err-paths-in-Ok-clause-runs : goal.returns-in_err-paths-in-Ok-clause-runs
returns-in_err-paths-in-Ok-clause-runs g c =
    rw c.in-Some.is (list_run _ _ _ _ _ _ c.in-Some.list.now c.in-Ok.text.items c.in-Ok.ensures.read _ refl _ _ _ _ _
    (inr (search rules, refl, refl, rw c.in-Ok.ensures.unwritten (wrote_nothing _))))

-- memory was refused while folders were read
pub returns-in_err-places-in-Ok-clause-runs : goal.returns-in_err-places-in-Ok-clause-runs
returns-in_err-places-in-Ok-clause-runs g c =
    rw c.in-Some.is (list_run _ _ _ _ _ _ c.in-Some.list.now c.in-Ok.text.items c.in-Ok.ensures.read _ refl _ _ _ _ _
    (inr (search rules, refl, refl, rw c.in-Ok.ensures.unwritten (wrote_nothing _))))

pub returns-in_ok-places-in-Ok-clause-runs : goal.returns-in_ok-places-in-Ok-clause-runs
returns-in_ok-places-in-Ok-clause-runs g c =
    let into : c.unwrap_or-folder.result.now ≡ unwrap_or (option_map (λ f. f.now) c.args.request.now.folder) [] =
    ap (λ folder. folder.now) c.unwrap_or-folder.ensures ∙ folder_if c.args.request.now.folder _ refl in
    let same =
    ap (map (λ path. path.now)) c.as_slice-in-Ok-2.ensures.value ∙ c.in_ok-paths-in-Ok.ensures ∙ ap paths_in c.as_slice-in-Ok.ensures.value in
    rw c.in-Some.is (list_run _ _ _ _ _ _ c.in-Some.list.now c.in-Ok.text.items c.in-Ok.ensures.read _ refl _ _ _ _ _
    (published _ _ _ _ _ _ _ _ _ _ _ _ _ _ _ _ _ _ _ _ _ _ (rw c.in-Ok.ensures.opens.stays at c.in_ok-places-in-Ok.ensures.places) same
    (rw (
      c.in-Ok.ensures.opens.stays,
      c.in-Ok.ensures.unwritten,
      c.many_files-many.ensures,
      c.as_slice-in-Ok-3.ensures.value,
      into,
    ) at c.publish_into-in-Ok.ensures.runs)))

pub returns-in_ok-places-in-Ok-clause-opens : goal.returns-in_ok-places-in-Ok-clause-opens
returns-in_ok-places-in-Ok-clause-opens g c =
    let same =
    ap (map (λ path. path.now)) c.as_slice-in-Ok-2.ensures.value ∙ c.in_ok-paths-in-Ok.ensures ∙ ap paths_in c.as_slice-in-Ok.ensures.value in
    rw c.in-Some.is (record {
      between = c.read_list.new.source;
      opens = c.in-Ok.ensures.opens;
      rest = inl (record {
        bytes = c.in-Ok.text.items;
        reads = c.in-Ok.ensures.read;
        opens = opens_placed _ _ _ _ _ _ _ _ _ _ (rw (c.many_files-many.ensures, c.in-Some.is) at c.in_ok-places-in-Ok.ensures.openings) same
            (rw c.as_slice-in-Ok-3.ensures.value at c.publish_into-in-Ok.ensures.opens);
      });
    })

pub returns-in-Err-clause-opens : goal.returns-in-Err-clause-opens
returns-in-Err-clause-opens g c =
    rw c.in-Some.is (record {
      between = c.read_list.new.source;
      opens = c.in-Err.ensures.opens;
      rest = inr (rw c.refuse_list.ensures.status (fault_status_above c.in-Err.fault), refl);
    })
