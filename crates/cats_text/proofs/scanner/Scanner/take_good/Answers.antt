-- `Scanner::take_good`
use Rattle.cats_text.proofs.Common.{err_from_is_err_and, progress}
use Rattle.cats_text.proofs.Scanning.ManyGoods.{good_taken, good_halts}
use Rattle.cats_text.proofs.scanner.Scanner.take_good.Goals as goal

pub returns-clause-scanned : goal.returns-clause-scanned
returns-clause-scanned g c bytes leading_token =
    good_taken _ _ _ bytes _ _ c.requires.due leading_token c.in_ok-take_good.ensures.reads c.in_ok-take_good.ensures.stage c.requires.waits

pub returns-in_err-take_good-clause-scanned : goal.returns-in_err-take_good-clause-scanned
returns-in_err-take_good-clause-scanned g c bytes leading_token =
    let reported = err_from_is_err_and c.from_residual.result c.from_residual.ensures.1 in
    rw (reported.1, reported.2)
    (good_halts _ (progress g.K.Keep.keep c.take_good.new.self) c.args.self.now.waiting bytes _ _ _
    c.requires.due leading_token c.in_err-take_good.ensures.reads)
