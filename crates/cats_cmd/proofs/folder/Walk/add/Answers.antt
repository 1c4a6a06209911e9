-- `Walk::add`
use Rattle.cats_cmd.proofs.Common.{ap, ◌∙◌, List, ℕ, ◌++◌}
use Rattle.cats_cmd.proofs.Walking.{all_more, begins_more}
use Rattle.cats_cmd.proofs.folder.Walk.add.Goals as goal

pub returns-in_ok-push-in-Folder : goal.returns-in_ok-push-in-Folder
returns-in_ok-push-in-Folder g c start begins below = record {
  folders = all_more start _ _ _ c.in_ok-push-in-Folder.ensures.items
      (begins_more start c.args.start.now c.args.name.now begins _
      (c.in_ok-extend_from_slice.ensures.items ∙ ap (λ (p : List ℕ). p ++ c.args.name.now) c.in_ok-path.ensures.items)) below.folders;
  found = below.found;
}

pub returns-in_ok-push-in-File : goal.returns-in_ok-push-in-File
returns-in_ok-push-in-File g c start begins below = record {
  folders = below.folders;
  found = all_more start _ _ _ c.in_ok-push-in-File.ensures.items
      (begins_more start c.args.start.now c.args.name.now begins _
      (c.in_ok-extend_from_slice.ensures.items ∙ ap (λ (p : List ℕ). p ++ c.args.name.now) c.in_ok-path.ensures.items)) below.found;
}
