-- `judge_all`
use Rattle.cats_cmd.proofs.Common.{[], FilePath, Ok, Err, arith, refl}
use Rattle.cats_cmd.proofs.RunsOfPaths.{sends_same}
use Rattle.cats_cmd.proofs.JudgingPaths.{all_ended, all_judged, fault_above, first_judged, none_judged, path_more, path_unsent, sent_status}
use Rattle.cats_cmd.proofs.Opening.{opens_next, opens_none, opens_some}
use Rattle.cats_cmd.specs.declared.source.Way.TheVariants.{Anything}
use Rattle.cats_cmd.proofs.paths.judge_all.Goals as goal

abbrev nowhere : FilePath
nowhere = record { path = record { ref_ptr = (0, 0); now = [] }; way = Anything }

pub loop-number-init : goal.loop-number-init
loop-number-init g c = record {
  judged = λ start printed begins. none_judged _ _ _ _ _ _ _ _ _ _ _ _ start _ _ _ printed _ c.requires.empty begins;
  works = c.requires.works;
  opens = opens_none _ _ _;
}

pub loop-number-preserved : goal.loop-number-preserved
loop-number-preserved g c =
    let paths = c.args.work.now.paths.now in
    let number = c.loop-number.number in
    record {
      judged = λ start printed begins. path_more _ _ _ _ _ _ _ _ _ _ _ _ paths start _ number _ _ _ _ _ (c.loop-number.invariant.judged start printed begins)
          _ nowhere c.loop-number-test.true _ _ c.in_ok-status.status c.in_ok-status.text.items
          (rw c.loop-number.invariant.opens.stays at c.in_ok-status.ensures.adds) _ _ _
          (sends_same g.W.Write.contents c.loop-number.sent c.as_slice.result.now c.in_ok-status.text.items c.loop-number.out c.send_next.new.out
          (Ok c.in_ok-sent.sent) c.as_slice.ensures.value c.in_ok-sent.ensures)
          c.max-greatest.ensures;
      works = c.in_ok-sent.ensures.1.works;
      opens = opens_next _ _ _ _ _ paths number nowhere c.loop-number-test.true c.loop-number.invariant.opens c.judge_path.ensures.opens;
    }

pub returns-clause-judges : goal.returns-clause-judges
returns-clause-judges g c =
    let paths = c.args.work.now.paths.now in
    let number = c.loop-number.number in
    λ start printed begins. all_judged _ _ _ _ _ _ _ _ _ _ _ _ paths start _ number _ _ _ _ _ (c.loop-number.invariant.judged start printed begins)
    (omega (arith, c.loop-number-test.false)) _ refl refl

pub returns-in_err-status-clause-judges : goal.returns-in_err-status-clause-judges
returns-in_err-status-clause-judges g c =
    let paths = c.args.work.now.paths.now in
    let number = c.loop-number.number in
    λ start printed begins. all_ended _ _ _ _ _ _ _ _ _ _ _ _ _ start _ _ _ _
    (first_judged _ _ _ _ _ _ _ _ _ _ _ _ paths start _ number _ _ _ _ _ (c.loop-number.invariant.judged start printed begins) _ nowhere
    c.loop-number-test.true _ (rw c.loop-number.invariant.opens.stays at c.in_err-status.ensures.adds)) _ c.from_residual.ensures.1

pub returns-in_err-status-clause-opens : goal.returns-in_err-status-clause-opens
returns-in_err-status-clause-opens g c =
    opens_some _ _ _ _ _ c.args.work.now.paths.now c.loop-number.number nowhere c.loop-number-test.true c.loop-number.invariant.opens
    c.judge_path.ensures.opens _ (fault_above _ (omega arith) _ c.from_residual.ensures.1)

pub returns-in_err-sent-clause-judges : goal.returns-in_err-sent-clause-judges
returns-in_err-sent-clause-judges g c =
    let paths = c.args.work.now.paths.now in
    let number = c.loop-number.number in
    λ start printed begins. all_ended _ _ _ _ _ _ _ _ _ _ _ _ _ start _ _ _ _
    (path_unsent _ _ _ _ _ _ _ _ _ _ _ _ paths start _ number _ _ _ _ _ (c.loop-number.invariant.judged start printed begins) _ nowhere
    c.loop-number-test.true _ _ c.in_ok-status.status c.in_ok-status.text.items
    (rw c.loop-number.invariant.opens.stays at c.in_ok-status.ensures.adds) _ _
    (sends_same g.W.Write.contents c.loop-number.sent c.as_slice.result.now c.in_ok-status.text.items c.loop-number.out c.send_next.new.out
    (Err c.in_err-sent.field-0.0) c.as_slice.ensures.value c.in_err-sent.ensures))
    _ c.from_residual-in_err-sent.ensures.1

pub returns-in_err-sent-clause-opens : goal.returns-in_err-sent-clause-opens
returns-in_err-sent-clause-opens g c =
    opens_some _ _ _ _ _ c.args.work.now.paths.now c.loop-number.number nowhere c.loop-number-test.true c.loop-number.invariant.opens
    c.judge_path.ensures.opens _ (fault_above _ (sent_status _ _ _ _ _ _ c.in_err-sent.ensures) _ c.from_residual-in_err-sent.ensures.1)
