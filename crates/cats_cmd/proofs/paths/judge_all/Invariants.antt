-- `judge_all`
use Rattle.cats_cmd.proofs.Common.{◌≡◌, false, ℕ, List, map, take, length, has_failed, BeginsRun, HasJudged, Opens, Watched, opening_of, openings_of}
use Rattle.cats_cmd.proofs.Common.{WritesEach}
use Rattle.cats_cmd.proofs.paths.judge_all.Given as goal

-- the files at the paths so far were judged, what is printed of them was sent, and these paths were opened
abbrev pub invariant-loop-number : goal.invariant-loop-number
invariant-loop-number g l = record {
  judged : (start : Watched g.row.W.Denot) (printed : List ℕ) → BeginsRun g.W.Write.contents (g.C.Collection.Shows l.work.many) start l.initial.out printed
      l.work.sent
      → HasJudged g.C.Collection.keeps (g.C.Collection.Shows l.work.many)
      (WritesEach (g.S.Source.may_not_write (g.S.Source.content_of l.initial.source)) (g.S.Source.texts l.initial.source) (g.S.Source.texts l.source))
      (g.S.Source.may_open (g.S.Source.content_of l.initial.source))
      (g.S.Source.may_refuse (g.S.Source.content_of l.initial.source)) g.S.Stream.Read.remaining
      (g.C.Collection.searched l.work.many.options) l.work.many.prices g.W.Write.contents g.E.Write.contents
      (record { refusals = g.C.Collection.refusals; progress = l.work.many.progress }) (length l.work.paths.now)
      (map (λ file. file.path.now) (take l.number l.work.paths.now)) l.collection start l.out l.initial.err l.err l.greatest l.sent;
  works : has_failed l.out ≡ false;
  opens : Opens g.S.Source.content_of g.S.Source.opened l.initial.source l.source
      (openings_of (map opening_of (take l.number l.work.paths.now)));
}
