-- `Scanner::read_bid_line`: scans of words one behind the other are one scan of all their bytes; where one of them stops, the scan stops there.
use Rattle.cats_text.proofs.Common.{rules, err_from_is_err_and, state}
use Rattle.cats_text.proofs.Scanning.WholeWords.{rest_then, rest_stops_to}
use Rattle.cats_text.proofs.scanner.Scanner.read_bid_line.Goals as goal

pub returns-in_err-offset-clause-scanned : goal.returns-in_err-offset-clause-scanned
returns-in_err-offset-clause-scanned g c = search (rules, err_from_is_err_and)

pub returns-in_default-leading_token-clause-scanned : goal.returns-in_default-leading_token-clause-scanned
returns-in_default-leading_token-clause-scanned g c = c.in_ok-offset.ensures.scanned c.args.bytes.now c.in-Some.ensures

pub returns-in_err-offset-2-clause-scanned : goal.returns-in_err-offset-2-clause-scanned
returns-in_err-offset-2-clause-scanned g c =
    let number = c.in_ok-offset.ensures.scanned c.args.bytes.now c.in-Some.ensures in
    let reported = err_from_is_err_and c.from_residual-in_err-offset-2.result c.from_residual-in_err-offset-2.ensures.1 in
    rw (reported.1, reported.2)
    (rest_stops_to _ _ (state g.K.Keep.keep c.take_word-2.new.self) _ c.take_word-2.new.self.waiting c.args.bytes.now _ c.in_err-offset-2.field-0.0
    number.0 (c.in_err-offset-2.ensures.scanned _ c.in-Some-leading_token.ensures))

pub returns-then-not-takes_goods-clause-scanned : goal.returns-then-not-takes_goods-clause-scanned
returns-then-not-takes_goods-clause-scanned g c =
    let number = c.in_ok-offset.ensures.scanned c.args.bytes.now c.in-Some.ensures in
    rest_then _ _ _ _ _ c.args.bytes.now _ _ number.1 (λ q. c.take_word-2.ensures.waiting) number.0
    (c.in_ok-offset-2.ensures.scanned _ c.in-Some-leading_token.ensures)

pub returns-then-not-ends_bid-clause-scanned : goal.returns-then-not-ends_bid-clause-scanned
returns-then-not-ends_bid-clause-scanned g c =
    let number = c.in_ok-offset.ensures.scanned c.args.bytes.now c.in-Some.ensures in
    let price = rest_then _ _ _ _ _ c.args.bytes.now _ _ number.1 (λ q. c.take_word-2.ensures.waiting) number.0
    (c.in_ok-offset-2.ensures.scanned _ c.in-Some-leading_token.ensures) in
    rest_then _ _ _ _ _ c.args.bytes.now _ _ price.1 (λ q. c.take_goods.ensures.waiting) price.0 c.in_ok-offset-3.ensures.scanned

pub returns-in_err-offset-4-clause-scanned : goal.returns-in_err-offset-4-clause-scanned
returns-in_err-offset-4-clause-scanned g c =
    let number = c.in_ok-offset.ensures.scanned c.args.bytes.now c.in-Some.ensures in
    let price = rest_then _ _ _ _ _ c.args.bytes.now _ _ number.1 (λ q. c.take_word-2.ensures.waiting) number.0
    (c.in_ok-offset-2.ensures.scanned _ c.in-Some-leading_token.ensures) in
    let goods = rest_then _ _ _ _ _ c.args.bytes.now _ _ price.1 (λ q. c.take_goods.ensures.waiting) price.0 c.in_ok-offset-3.ensures.scanned in
    let reported = err_from_is_err_and c.from_residual-in_err-offset-4.result c.from_residual-in_err-offset-4.ensures.1 in
    rw (reported.1, reported.2)
    (rest_stops_to _ _ (state g.K.Keep.keep c.take_bid_end.new.self) _ c.take_bid_end.new.self.waiting c.args.bytes.now _ c.in_err-offset-4.field-0.0
    goods.0 (c.in_err-offset-4.ensures.scanned _ c.if-not-ends_bid.ensures))

pub returns-clause-scanned : goal.returns-clause-scanned
returns-clause-scanned g c =
    let number = c.in_ok-offset.ensures.scanned c.args.bytes.now c.in-Some.ensures in
    let price = rest_then _ _ _ _ _ c.args.bytes.now _ _ number.1 (λ q. c.take_word-2.ensures.waiting) number.0
    (c.in_ok-offset-2.ensures.scanned _ c.in-Some-leading_token.ensures) in
    let goods = rest_then _ _ _ _ _ c.args.bytes.now _ _ price.1 (λ q. c.take_goods.ensures.waiting) price.0 c.in_ok-offset-3.ensures.scanned in
    rest_then _ _ _ _ _ c.args.bytes.now _ _ goods.1 (λ q. c.take_bid_end.ensures.waiting) goods.0
    (c.in_ok-offset-4.ensures.scanned _ c.if-not-ends_bid.ensures)
