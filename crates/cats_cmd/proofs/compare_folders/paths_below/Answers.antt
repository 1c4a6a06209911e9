-- `paths_below`
use Rattle.cats_cmd.proofs.ComparingFolders.{are_paths_below}
use Rattle.cats_cmd.specs.Internal.Comparing.{plain_folders}
use Rattle.cats_cmd.proofs.compare_folders.paths_below.Goals as goal

pub returns : goal.returns
returns c =
    are_paths_below (plain_folders c.args.folders) c.requires c.new-paths.result.items _ _ _ _ c.new-paths.ensures.items c.in_ok-push_below.ensures
    c.in_ok-push_below-2.ensures c.sort_unstable.ensures.permutation c.sort_unstable.ensures.sorted c.dedup.ensures.filtered
