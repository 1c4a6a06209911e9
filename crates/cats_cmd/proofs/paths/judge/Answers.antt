-- `judge`
use Rattle.cats_cmd.proofs.Common.{refl, IsUnjudged, NotOpened, Only, []}
use Rattle.cats_cmd.proofs.CarryingOut.{is_priced}
use Rattle.cats_cmd.proofs.Judging.{opened_judges}
use Rattle.cats_cmd.proofs.Opening.{opens_kept}
use Rattle.cats_cmd.proofs.Storing.{wrote_behind, wrote_nothing}
use Rattle.cats_cmd.proofs.paths.judge.Goals as goal

pub returns-in_ok-added-in-Ok-clause-adds : goal.returns-in_ok-added-in-Ok-clause-adds
returns-in_ok-added-in-Ok-clause-adds g c =
    let a = c.in_ok-added-in-Ok.ensures.adds in
    record {
      judgement = a.stream.judgement;
      judges = rw c.rounded.ensures (opened_judges _ _ _ _ _ _ _ _
          (is_priced _ _ _ c.in-Ok.stream _ c.new-input.ensures.stream c.new-input.ensures.rule c.new-input.ensures.unread c.in-Ok.ensures.opened)
          a.stream.judgement a.stream.judges);
      adds = a.stream.adds;
      is_fault = a.stream.is_fault;
      more = a.more;
      wrote = wrote_behind _ _ _ _ c.open_path.ensures.unwritten (rw c.open_path.ensures.opens.stays at a.wrote);
      shows = a.shows;
    }

pub returns-in_ok-added-in-Ok-clause-opens : goal.returns-in_ok-added-in-Ok-clause-opens
returns-in_ok-added-in-Ok-clause-opens g c = opens_kept _ _ _ _ _ _ c.open_path.ensures.opens c.add.ensures.files

pub returns-in_err-added-in-Ok-clause-opens : goal.returns-in_err-added-in-Ok-clause-opens
returns-in_err-added-in-Ok-clause-opens g c = opens_kept _ _ _ _ _ _ c.open_path.ensures.opens c.add.ensures.files

pub returns-in_ok-text-in-Err-clause-adds : goal.returns-in_ok-text-in-Err-clause-adds
returns-in_ok-text-in-Err-clause-adds g c = record {
  judgement = IsUnjudged (NotOpened Only c.in-Err.why);
  judges = (refl, c.in-Err.ensures.refused, refl);
  adds = c.in_ok-text-in-Err.ensures.0;
  is_fault = refl;
  more = [];
  wrote = wrote_behind _ _ _ _ c.open_path.ensures.unwritten (wrote_nothing _);
  shows = c.in_ok-text-in-Err.ensures.1;
}
