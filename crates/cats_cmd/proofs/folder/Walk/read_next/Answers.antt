-- `Walk::read_next`
use Rattle.cats_cmd.proofs.Common.{ap, ◌∙◌, with_slash}
use Rattle.cats_cmd.proofs.Walking.{all_more, slash_begins}
use Rattle.cats_cmd.proofs.folder.Walk.read_next.Goals as goal

pub returns-in_ok-push : goal.returns-in_ok-push
returns-in_ok-push g c start begins below =
    let slash = c.as_slice-3.ensures.value ∙ c.in_ok-start.ensures ∙ ap with_slash c.as_slice.ensures.value in
    let read = c.in_ok-read.ensures start (slash_begins start c.args.folder.items c.as_slice-3.result.now slash begins) below in
    record {
      folders = read.folders;
      found = all_more start _ _ _ c.in_ok-push.ensures.items begins read.found;
    }

pub returns-else-not-branch : goal.returns-else-not-branch
returns-else-not-branch g c start begins below =
    c.in_ok-read.ensures start
    (slash_begins start c.args.folder.items c.as_slice-3.result.now
    (c.as_slice-3.ensures.value ∙ c.in_ok-start.ensures ∙ ap with_slash c.as_slice.ensures.value) begins) below
