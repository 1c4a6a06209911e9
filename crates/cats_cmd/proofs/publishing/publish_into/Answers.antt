-- `publish_into`
use Rattle.cats_cmd.proofs.Common.{inl, inr, refl}
use Rattle.cats_cmd.proofs.Opening.{each_behind}
use Rattle.cats_cmd.proofs.PlacingTexts.{placed_opened}
use Rattle.cats_cmd.proofs.Storing.{wrote_nothing}
use Rattle.cats_cmd.proofs.publishing.publish_into.Goals as goal

pub returns-in-Some-2-clause-runs : goal.returns-in-Some-2-clause-runs
returns-in-Some-2-clause-runs g c =
    inl (inl (record {
      silent = refl;
      wrote = rw c.in_ok-path.ensures.unwritten (wrote_nothing _);
      why = inr (
        refl,
        record {
          path = c.in-Some-2.path.items;
          why = c.in-Some-2.why;
          cannot = rw c.in-Some-2.is at c.in_ok-path.ensures.finds;
          reports = rw c.as_slice.ensures.value at c.report_refusal.ensures;
        },
      );
    }))

pub returns-clause-runs : goal.returns-clause-runs
returns-clause-runs g c =
    inl (inr (record {
      placed = rw c.in_default.is at c.in_ok-misplaced.ensures;
      free = rw c.in_default-2.is at c.in_ok-path.ensures.finds;
      runs = rw (
        c.as_slice-2.ensures.value,
        placed_opened c.in_ok-files.files.items c.args.target.places.now c.in_ok-files.ensures,
        c.in_ok-path.ensures.files.content,
        c.in_ok-path.ensures.unwritten,
      ) at c.run_on_paths.ensures.runs;
    }))

pub returns-clause-opens : goal.returns-clause-opens
returns-clause-opens g c =
    each_behind _ _ _ _ _ _ _ c.find_unwritten.ensures.files
    (rw (c.as_slice-2.ensures.value, c.in_ok-files.ensures) at c.run_on_paths.ensures.opens)
