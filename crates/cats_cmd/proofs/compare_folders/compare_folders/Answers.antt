-- `compare_folders`
use Rattle.cats_cmd.proofs.Common.{◌≡◌, ◌∙◌, ◌⊎◌, ℕ, List, Vec, Global, Ok, Err, Only, Memory, Refused, ap, inl, inr, arith, subst, sym, take_all, take}
use Rattle.cats_cmd.proofs.Common.{paths_of}
use Rattle.cats_cmd.proofs.ComparedRows.{all_compared, begun, ended, first_of, head_unsent, next_opens, next_row, next_stopped, next_there, next_unsent}
use Rattle.cats_cmd.proofs.ComparedRows.{opens_no_rows, stopped}
use Rattle.cats_cmd.proofs.JudgingPaths.{run_above, sent_status}
use Rattle.cats_cmd.proofs.RunsOfPaths.{sends_same}
use Rattle.cats_cmd.specs.ComparedFolders.{ArePathsBelow, IsIn}
use Rattle.cats_cmd.specs.Internal.Comparing.{plain_folders}
use Rattle.cats_cmd.proofs.compare_folders.compare_folders.Goals as goal

abbrev items_of : Vec ℕ Global → List ℕ
items_of path = path.items

pub loop-path-init : goal.loop-path-init
loop-path-init g c = record {
  rows = begun _ _ _ _ _ _ _ _ _ c.as_bytes.result.now c.send_next.new.out c.in_ok-sent.sent c.as_bytes.ensures.value c.in_ok-sent.ensures;
  works = c.in_ok-sent.ensures.1.works;
  opens = opens_no_rows _ _ _ _ _ _ _ c.args.source.now;
}

pub compare_path-requires-clause-there : goal.compare_path-requires-clause-there
compare_path-requires-clause-there g c =
    let folders = plain_folders c.args.folders in
    let list = c.as_slice-path-items.result.now in
    let are = subst (λ (ps : List (Vec ℕ Global)). ArePathsBelow folders (paths_of ps)) (sym c.as_slice-path-items.ensures.value) c.in_ok-paths.ensures in
    subst (λ (p : List ℕ). IsIn folders.left p ⊎ IsIn folders.right p) (sym (c.as_slice.ensures.value ∙ ap items_of c.path-item.is))
    (are.below _ (next_there list c.loop-path.path-index c.path-item.result c.loop-path-test.true))

pub loop-path-preserved : goal.loop-path-preserved
loop-path-preserved g c =
    let same = c.as_slice.ensures.value ∙ ap items_of c.path-item.is in
    record {
      rows = next_row _ _ _ _ _ _ _ _ _ c.as_slice-path-items.result.now c.loop-path.path-index c.path-item.result c.loop-path-test.true _ _ _ _ _ _ same _ _
          c.loop-path.invariant.rows (rw c.loop-path.invariant.opens.opens.stays at c.in_ok-status.ensures.adds) _ _ _
          (sends_same g.W.Write.contents c.loop-path.sent c.as_slice-in-loop-path.result.now c.in_ok-status.text.items c.loop-path.out
          c.send_next-in-loop-path.new.out (Ok c.in_ok-sent-2.sent) c.as_slice-in-loop-path.ensures.value c.in_ok-sent-2.ensures)
          c.max-greatest.ensures;
      works = c.in_ok-sent-2.ensures.1.works;
      opens = next_opens _ _ _ _ _ _ _ c.as_slice-path-items.result.now c.loop-path.path-index c.path-item.result c.loop-path-test.true _ same _ _ _
          c.loop-path.invariant.opens c.in_ok-status.ensures.opens;
    }

pub returns-clause-runs : goal.returns-clause-runs
returns-clause-runs g c =
    let folders = plain_folders c.args.folders in
    let list = c.as_slice-path-items.result.now in
    let are = subst (λ (ps : List (Vec ℕ Global)). ArePathsBelow folders (paths_of ps)) (sym c.as_slice-path-items.ensures.value) c.in_ok-paths.ensures in
    inl (record {
      paths = paths_of list;
      are = are;
      runs = all_compared _ _ _ _ _ _ _ _ _ (paths_of list) _ _ _ _ (rw
          (take_all c.loop-path.path-index list c.loop-path-test.false) at c.loop-path.invariant.rows);
    })

pub returns-clause-opens : goal.returns-clause-opens
returns-clause-opens g c =
    let folders = plain_folders c.args.folders in
    let list = c.as_slice-path-items.result.now in
    let are = subst (λ (ps : List (Vec ℕ Global)). ArePathsBelow folders (paths_of ps)) (sym c.as_slice-path-items.ensures.value) c.in_ok-paths.ensures in
    inl (record {
      paths = paths_of list;
      are = are;
      opens = inl (rw (take_all c.loop-path.path-index list c.loop-path-test.false) at c.loop-path.invariant.opens);
    })

-- ---- the output failed in the header

pub returns-in_err-sent-clause-runs : goal.returns-in_err-sent-clause-runs
returns-in_err-sent-clause-runs g c =
    ended _ _ _ _ _ _ _ _ _ (paths_of c.in_ok-paths.paths.items) c.in_ok-paths.ensures c.send_next.new.out c.args.err.now c.in_err-sent.field-0.0
    (head_unsent _ _ _ _ _ _ _ _ _
    (paths_of c.in_ok-paths.paths.items) c.as_bytes.result.now c.send_next.new.out c.in_err-sent.field-0.0 c.as_bytes.ensures.value
    c.in_err-sent.ensures) _ c.from_residual-in_err-sent.ensures.1

pub returns-in_err-sent-clause-opens : goal.returns-in_err-sent-clause-opens
returns-in_err-sent-clause-opens g c =
    inl (record {
      paths = paths_of c.in_ok-paths.paths.items;
      are = c.in_ok-paths.ensures;
      opens = inr (
        run_above _ (sent_status _ _ _ _ _ _ c.in_err-sent.ensures) _ c.from_residual-in_err-sent.ensures.1,
        (0, opens_no_rows _ _ _ _ _ _ _ c.args.source.now),
      );
    })

-- ---- memory was refused at a path

pub returns-in_err-status-clause-runs : goal.returns-in_err-status-clause-runs
returns-in_err-status-clause-runs g c =
    let folders = plain_folders c.args.folders in
    let list = c.as_slice-path-items.result.now in
    let i = c.loop-path.path-index in
    let are = subst (λ (ps : List (Vec ℕ Global)). ArePathsBelow folders (paths_of ps)) (sym c.as_slice-path-items.ensures.value) c.in_ok-paths.ensures in
    rw c.in_err-status.ensures.stops (ended _ _ _ _ _ _ _ _ _ (paths_of list) are c.loop-path.out c.loop-path.err (Refused Only Memory)
    (stopped _ _ _ _ _ _ _ _ _ (paths_of list) (paths_of (take i list)) i (first_of list i) _ _ _ _ c.loop-path.invariant.rows)
    _ c.from_residual-in_err-status.ensures.1)

pub returns-in_err-status-clause-opens : goal.returns-in_err-status-clause-opens
returns-in_err-status-clause-opens g c =
    let folders = plain_folders c.args.folders in
    let list = c.as_slice-path-items.result.now in
    let same = c.as_slice.ensures.value ∙ ap items_of c.path-item.is in
    let are = subst (λ (ps : List (Vec ℕ Global)). ArePathsBelow folders (paths_of ps)) (sym c.as_slice-path-items.ensures.value) c.in_ok-paths.ensures in
    inl (record {
      paths = paths_of list;
      are = are;
      opens = inr (
        run_above (Refused Only Memory) (omega arith) _ c.from_residual-in_err-status.ensures.1,
        next_stopped _ _ _ _ _ _ _ list c.loop-path.path-index c.path-item.result c.loop-path-test.true _ same _ _ _ c.loop-path.invariant.opens
            c.in_err-status.ensures.opens,
      );
    })

-- ---- the output failed in a row

pub returns-in_err-sent-2-clause-runs : goal.returns-in_err-sent-2-clause-runs
returns-in_err-sent-2-clause-runs g c =
    let folders = plain_folders c.args.folders in
    let list = c.as_slice-path-items.result.now in
    let same = c.as_slice.ensures.value ∙ ap items_of c.path-item.is in
    let are = subst (λ (ps : List (Vec ℕ Global)). ArePathsBelow folders (paths_of ps)) (sym c.as_slice-path-items.ensures.value) c.in_ok-paths.ensures in
    ended _ _ _ _ _ _ _ _ _ (paths_of list) are c.send_next-in-loop-path.new.out c.compare_path.new.err c.in_err-sent-2.field-0.0
    (next_unsent _ _ _ _ _ _ _ _ _ list c.loop-path.path-index c.path-item.result c.loop-path-test.true _ _ _ _ _ _ same _ _
    c.loop-path.invariant.rows (rw c.loop-path.invariant.opens.opens.stays at c.in_ok-status.ensures.adds) _ _
    (sends_same g.W.Write.contents c.loop-path.sent c.as_slice-in-loop-path.result.now c.in_ok-status.text.items c.loop-path.out
    c.send_next-in-loop-path.new.out (Err c.in_err-sent-2.field-0.0) c.as_slice-in-loop-path.ensures.value c.in_err-sent-2.ensures))
    _ c.from_residual-in_err-sent-2.ensures.1

pub returns-in_err-sent-2-clause-opens : goal.returns-in_err-sent-2-clause-opens
returns-in_err-sent-2-clause-opens g c =
    let folders = plain_folders c.args.folders in
    let list = c.as_slice-path-items.result.now in
    let i = c.loop-path.path-index in
    let same = c.as_slice.ensures.value ∙ ap items_of c.path-item.is in
    let are = subst (λ (ps : List (Vec ℕ Global)). ArePathsBelow folders (paths_of ps)) (sym c.as_slice-path-items.ensures.value) c.in_ok-paths.ensures in
    inl (record {
      paths = paths_of list;
      are = are;
      opens = inr (
        run_above _ (sent_status _ _ _ _ _ _ c.in_err-sent-2.ensures) _ c.from_residual-in_err-sent-2.ensures.1,
        next_stopped _ _ _ _ _ _ _ list i c.path-item.result c.loop-path-test.true _ same _ _ _ c.loop-path.invariant.opens c.in_ok-status.ensures.opens,
      );
    })
