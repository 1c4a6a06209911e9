-- `compare_path`
use Rattle.cats_cmd.proofs.Common.{false, inl, refl}
use Rattle.cats_cmd.proofs.ComparedRows.{row_opened}
use Rattle.cats_cmd.proofs.JudgingPaths.{reports_more}
use Rattle.cats_cmd.proofs.compare_folders.compare_path.Goals as goal

pub returns-in_err-row-clause-opens : goal.returns-in_err-row-clause-opens
returns-in_err-row-clause-opens g c =
    let judged = c.judge_path-judged in
    inl (row_opened _ _ _ _ _ _ _ c.args.source.now judged.new.source
    (record { path = c.args.path.now; verdict = judged.result.verdict; left = judged.result.left; right = judged.result.right; lost = false })
    (rw (c.in_ok-first.ensures, c.in_ok-second.ensures) at judged.ensures.judges)
    (rw (c.in_ok-first.ensures, c.in_ok-second.ensures) at judged.ensures.opens))

pub returns-clause-adds : goal.returns-clause-adds
returns-clause-adds g c =
    let judged = c.judge_path-judged in
    record {
      row = record {
        path = c.args.path.now;
        verdict = judged.result.verdict;
        left = judged.result.left;
        right = judged.result.right;
        lost = c.is_lost-lost.result;
      };
      is_path = refl;
      judges = rw (c.in_ok-first.ensures, c.in_ok-second.ensures) at judged.ensures.judges;
      reports = record {
        lines = reports_more _ _ _ _ c.report_rounded.new.err _ (rw (c.as_slice.ensures.value, c.in_ok-first.ensures) at c.report_rounded.ensures)
            (rw (c.as_slice-2.ensures.value, c.in_ok-second.ensures) at c.report_rounded-2.ensures);
        loses = rw c.max.ensures at c.is_lost-lost.ensures;
      };
      is_status = c.status_of_verdict.ensures;
      is_text = c.in_ok-row.ensures;
    }

pub returns-clause-opens : goal.returns-clause-opens
returns-clause-opens g c =
    let judged = c.judge_path-judged in
    inl (row_opened _ _ _ _ _ _ _ c.args.source.now judged.new.source
    (record { path = c.args.path.now; verdict = judged.result.verdict; left = judged.result.left; right = judged.result.right; lost = false })
    (rw (c.in_ok-first.ensures, c.in_ok-second.ensures) at judged.ensures.judges)
    (rw (c.in_ok-first.ensures, c.in_ok-second.ensures) at judged.ensures.opens))
