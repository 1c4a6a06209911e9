-- `push_groups`
use Rattle.cats_cmd.proofs.Common.{map, ap, ◌∙◌, with_group}
use Rattle.cats_cmd.proofs.Grouping.{group_printed}
use Rattle.cats_cmd.proofs.duplicates.lines.push_groups.Goals as goal

pub loop-group-preserved : goal.loop-group-preserved
loop-group-preserved c =
    group_printed c.args.ending c.args.all c.args.text.now.items c.args.groups.now c.loop-group.group-index c.group-item.result c.loop-group.text.items
    c.push_group.new.text.items c.loop-group-test.true c.group-item.is c.loop-group.invariant
    (c.in_ok-push_group.ensures ∙ ap (λ paths. with_group c.args.ending c.args.all c.loop-group.text.items (map (λ path. path.now) paths))
    c.as_slice.ensures.value)
