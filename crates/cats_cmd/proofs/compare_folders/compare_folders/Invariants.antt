-- `compare_folders`
use Rattle.cats_cmd.proofs.Common.{◌≡◌, false, take, has_failed, paths_of, plain_request}
use Rattle.cats_cmd.specs.ComparedFolders.{OpensRows}
use Rattle.cats_cmd.specs.Internal.Comparing.{HasCompared, plain_folders}
use Rattle.cats_cmd.proofs.compare_folders.compare_folders.Given as goal

-- the paths so far were judged, their rows were sent, and their files were opened
abbrev pub invariant-loop-path : goal.invariant-loop-path
invariant-loop-path g l = record {
  rows : HasCompared (g.S.Source.may_open (g.S.Source.content_of l.fn.source)) (g.S.Source.may_refuse (g.S.Source.content_of l.fn.source))
      g.S.Stream.Read.remaining (plain_request l.request) (plain_folders l.folders) g.W.Write.contents g.E.Write.contents
      (paths_of (take l.path-index l.path-items)) l.fn.out l.out l.fn.err l.err l.greatest l.sent;
  works : has_failed l.out ≡ false;
  opens : OpensRows g.S.Source.content_of g.S.Source.opened g.S.Source.may_open g.S.Source.may_refuse g.S.Stream.Read.remaining
      (plain_request l.request) (plain_folders l.folders) (paths_of (take l.path-index l.path-items)) l.fn.source l.source;
}
