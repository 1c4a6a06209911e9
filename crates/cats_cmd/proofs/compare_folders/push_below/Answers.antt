-- `push_below`
use Rattle.cats_cmd.proofs.Common.{ℕ, ◌∙◌, ap, arith, paths_of, Global, Vec}
use Rattle.cats_cmd.proofs.ComparingFolders.{push_more, pushed}
use Rattle.cats_cmd.specs.TextPaths.{path_below}
use Rattle.cats_cmd.proofs.compare_folders.push_below.Goals as goal

pub loop-file-preserved : goal.loop-file-preserved
loop-file-preserved c =
    let folder = c.args.folder.path.now in
    push_more folder (paths_of c.args.paths.now.items) c.args.folder.files.now c.loop-file.paths.items c.push.new.self.items c.loop-file.file-index
    c.file-item.result c.in_ok-from_slice.field-0 c.loop-file-test.true c.loop-file.invariant
    (c.in_ok-from_slice.ensures.items ∙ rw (c.length_with_slash-start.ensures, c.as_slice.ensures.value) at c.behind.ensures
    ∙ ap (λ (file : Vec ℕ Global). path_below folder file.items) c.file-item.is)
    c.in_ok-push.ensures.items

pub returns : goal.returns
returns c =
    pushed c.args.folder.path.now (paths_of c.args.paths.now.items) (paths_of c.loop-file.paths.items) c.args.folder.files.now c.loop-file.file-index
    (omega (arith, c.loop-file-test.false)) c.loop-file.invariant
