-- `files_below`
use Rattle.cats_cmd.proofs.Common.{sym, subst, All-take, with_slash, WalksBelow, All}
use Rattle.cats_cmd.proofs.Walking.{Begins, all_fewer, begins_itself, lists_folder, starts_below}
use Rattle.cats_cmd.proofs.folder.files_below.Goals as goal
use Rattle.cats_cmd.proofs.folder.files_below.Goals.{else-loop-test, then-loop-test+in_default}

pub loop-init : goal.loop-init
loop-init g c =
    let start = with_slash c.args.path.now in
    c.in_ok-read_first.ensures start (begins_itself start) (starts_below start _ c.new.ensures.items c.new-2.ensures.items)

pub loop-preserved : goal.loop-preserved
loop-preserved g c =
    let start = with_slash c.args.path.now in
    let fewer = all_fewer start c.loop.walk.folders.items c.pop.new.self.items c.in-Some.folder c.in-Some.ensures.items c.loop.invariant.folders in
    c.in_ok-read_next.ensures start fewer.1 (record { folders = fewer.0; found = c.loop.invariant.found })

pub returns : goal.returns
returns g c =
    let start = with_slash c.args.path.now in
    let all : WalksBelow start c.loop-test.walk = elim c.loop-test.branch [
      | else-loop-test w ↦ rw w.walk-is c.loop.invariant
      | then-loop-test+in_default w ↦ rw w.walk-is (record {
        folders = subst (All (Begins start)) (sym w.in_default.ensures.rest) (All-take (Begins start) _ c.loop.walk.folders.items c.loop.invariant.folders);
        found = c.loop.invariant.found;
      })
    ] in
    lists_folder c.args.path.now _ _ _ _ _ all.found all.folders c.in_ok-append.ensures.items c.sort_unstable.ensures.permutation
    c.sort_unstable.ensures.sorted c.dedup.ensures.filtered
