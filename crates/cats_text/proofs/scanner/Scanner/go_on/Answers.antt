-- `Scanner::go_on`
use Rattle.cats_text.proofs.Common.{◌≡◌, ◌-◌, ◌&&◌, eqb, length, get_or, sym, ap, ◌∙◌, rules, eq-eqb, ne_eqb, unwrap_or, state, Inside}
use Rattle.cats_text.proofs.Scanning.ManyBytes.{comment_scanned, comment_within, word_goes_on}
use Rattle.cats_text.proofs.scanner.Scanner.go_on.Goals as goal
use Rattle.cats_text.proofs.scanner.Scanner.go_on.Goals.{then-count-bytes, else-count-bytes}

pub returns-after-count-bytes-clause-scanned : goal.returns-after-count-bytes-clause-scanned
returns-after-count-bytes-clause-scanned g c =
    let bytes = c.args.bytes.now in
    let count = c.unwrap_or-count.result in
    let feed = c.unwrap_or-count.ensures ∙ ap (λ o. unwrap_or o (length c.args.bytes.now)) c.line_feed.ensures in (
      comment_scanned (state g.K.Keep.keep c.args.self.now) bytes count c.if-count-bytes.self c.in-Comment.is c.requires.some feed
          (elim c.if-count-bytes.branch [
            | then-count-bytes w ↦ w.self-is
                ∙ sym (ap (λ t. t && eqb (get_or c.args.bytes.now (c.unwrap_or-count.result - 1) 0) 13) (eq-eqb _ _ w.if-count-bytes.true))
            | else-count-bytes w ↦ w.self-is ∙ ne_eqb _ _ w.if-count-bytes.false
                ∙ sym (ap (λ t. t && eqb (get_or c.args.bytes.now (c.unwrap_or-count.result - 1) 0) 13) (ne_eqb _ _ w.if-count-bytes.false))
          ]),
      comment_within bytes count feed,
    )

pub returns-in-Inside-clause-scanned : goal.returns-in-Inside-clause-scanned
returns-in-Inside-clause-scanned g c =
    let mode : c.args.self.now.mode ≡ Inside c.in-Inside.word = search rules in (
      word_goes_on (state g.K.Keep.keep c.args.self.now) c.in-Inside.word c.with_letters-word.result.0 c.args.bytes.now c.with_letters-word.result.1
          c.args.self.now.waiting mode c.with_letters-word.ensures.letters c.with_letters-word.ensures.word c.requires.waits,
      c.with_letters-word.ensures.bound,
    )
