-- `find_at`
use Rattle.cats_cmd.proofs.FilesOfPaths.{found_at_none, found_at_text}
use Rattle.cats_cmd.proofs.folders.find_at.Goals as goal

pub returns-in-Ok : goal.returns-in-Ok
returns-in-Ok g c =
    found_at_text (g.S.Source.may_find (g.S.Source.content_of c.args.source.now)) c.args.path.now c.in-Ok.path.now c.in-Ok.ensures.cases.0
    c.in-Ok.ensures.cases.1 c.find.result c.find.ensures

pub returns-in-Err : goal.returns-in-Err
returns-in-Err g c = found_at_none (g.S.Source.may_find (g.S.Source.content_of c.args.source.now)) c.args.path.now c.in-Err.ensures.cases.0
