-- `Scanner::take_bid_end`
use Rattle.cats_text.proofs.Common.{rules, refl, err_from_is_err_and}
use Rattle.cats_text.proofs.Scanning.BidEnds.{end_passed, end_halts}
use Rattle.cats_text.proofs.scanner.Scanner.take_bid_end.Goals as goal

pub returns-clause-scanned : goal.returns-clause-scanned
returns-clause-scanned g c bytes leading_token =
    end_passed _ _ c.args.self.now.waiting _ bytes c.requires.due leading_token c.in_ok-close_bid.ensures c.requires.waits refl

pub returns-in_err-close_bid-clause-scanned : goal.returns-in_err-close_bid-clause-scanned
returns-in_err-close_bid-clause-scanned g c bytes leading_token = search (rules, err_from_is_err_and, end_halts)
