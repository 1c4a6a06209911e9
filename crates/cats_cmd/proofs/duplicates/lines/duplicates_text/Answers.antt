-- `duplicates_text`
use Rattle.cats_cmd.proofs.Common.{ℕ, false, List, fold, ap, ap₂, ◌∙◌, found_paths, plain_groups, with_group}
use Rattle.cats_cmd.proofs.Grouping.{both_printed}
use Rattle.cats_cmd.proofs.duplicates.lines.duplicates_text.Goals as goal

pub returns : goal.returns
returns c =
    both_printed c.args.ending c.args.all (found_paths c.args.judged.now) (found_paths c.args.heavy.now) c.push_groups.new.text.items
    c.push_groups-2.new.text.items
    (c.in_ok-push_groups.ensures
    ∙ ap₂ (λ (text : List ℕ) (groups : List (List (List ℕ))). fold (with_group c.args.ending c.args.all) text groups) c.new-text.ensures.items
    (ap plain_groups c.as_slice.ensures.value ∙ c.in_ok-judged.ensures))
    (c.in_ok-push_groups-2.ensures ∙ ap (λ (groups : List (List (List ℕ))). fold (with_group c.args.ending false) c.push_groups.new.text.items groups)
    (ap plain_groups c.as_slice-2.ensures.value ∙ c.in_ok-heavy.ensures))
