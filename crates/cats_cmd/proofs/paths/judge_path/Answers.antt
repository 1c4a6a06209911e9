-- `judge_path`
use Rattle.cats_cmd.proofs.Common.{◌∙◌, ap, status_if}
use Rattle.cats_cmd.proofs.JudgingPaths.{path_reported, path_reports}
use Rattle.cats_cmd.proofs.paths.judge_path.Goals as goal

pub returns-clause-adds : goal.returns-clause-adds
returns-clause-adds g c =
    let a = c.in_ok-added.ensures.adds in
    record {
      judgement = a.judgement;
      rounded = _;
      lost = c.is_lost-lost.result;
      judges = a.judges;
      adds = a.adds;
      more = a.more;
      wrote = a.wrote;
      shows = a.shows;
      reports = rw a.is_fault at (path_reported _ _ _ _ _ _ _ _ _ _ c.report_progress.ensures c.remove_progress.ensures c.report_rounded.ensures
          c.report_refusal.ensures);
      path_reports = path_reports _ _ _ _ _ _ _ a.is_fault _ _ _ _ _ _ _ c.is_lost-lost.ensures c.report_progress.ensures c.remove_progress.ensures
          c.report_rounded.ensures c.report_refusal.ensures;
      is_status = c.status_if.ensures ∙ ap (status_if c.is_lost-lost.result) a.is_fault;
    }
