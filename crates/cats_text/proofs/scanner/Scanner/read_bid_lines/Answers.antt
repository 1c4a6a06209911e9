-- `Scanner::read_bid_lines`
use Rattle.cats_text.proofs.Common.{rules}
use Rattle.cats_text.proofs.Scanning.WholeWords.{rest_then}
use Rattle.cats_text.proofs.scanner.Scanner.read_bid_lines.Goals as goal

pub returns-then-taken-eq0-clause-scanned : goal.returns-then-taken-eq0-clause-scanned
returns-then-taken-eq0-clause-scanned g c =
    let next = rest_then _ _ _ _ _ c.args.bytes.now _ _ c.loop-offset.invariant.within (λ q. c.read_bid_line.ensures.waiting) c.loop-offset.invariant.scanned
    c.in_ok-taken.ensures.scanned in
    search rules
