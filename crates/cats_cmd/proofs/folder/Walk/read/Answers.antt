-- `Walk::read`
use Rattle.cats_cmd.proofs.folder.Walk.read.Goals as goal

pub loop-name-preserved-then-ne-2 : goal.loop-name-preserved-then-ne-2
loop-name-preserved-then-ne-2 g c start begins below = c.in_ok-add.ensures start begins (c.loop-name.invariant start begins below)
