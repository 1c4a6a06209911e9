-- `Scanner::take_word`
use Rattle.cats_text.proofs.Common.{err_from_is_err_and, progress}
use Rattle.cats_text.proofs.Scanning.WholeWords.{word_taken, word_halts}
use Rattle.cats_text.proofs.scanner.Scanner.take_word.Goals as goal

pub returns-clause-scanned : goal.returns-clause-scanned
returns-clause-scanned g c bytes leading_token =
    word_taken _ _ _ bytes _ _ c.requires.before leading_token c.in_ok-take_word.ensures.reads c.in_ok-take_word.ensures.stage c.requires.waits

pub returns-in_err-take_word-clause-scanned : goal.returns-in_err-take_word-clause-scanned
returns-in_err-take_word-clause-scanned g c bytes leading_token =
    let reported = err_from_is_err_and c.from_residual.result c.from_residual.ensures.1 in
    rw (reported.1, reported.2)
    (word_halts _ (progress g.K.Keep.keep c.take_word.new.self) c.args.self.now.waiting bytes _ _ _
    c.requires.before leading_token c.in_err-take_word.ensures.reads)
