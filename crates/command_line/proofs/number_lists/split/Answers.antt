-- `split`
use Rattle.command_line.proofs.Common.{map_from_collect, YieldsList-from_str_split}
use Rattle.command_line.proofs.number_lists.split.Goals as goal

pub returns : goal.returns
returns c = map_from_collect _ c.collect.ensures.ran
    (YieldsList-from_str_split c.args.at c.args.text.now c.requires c.split.ensures.text c.split.ensures.has_more c.split.ensures.pattern)
