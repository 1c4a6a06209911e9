-- `groups_without_line_feed`
use Rattle.cats_text.proofs.Common.{◌≡◌, ◌+◌, ◌-◌, ◌∙◌, eqb, false, subst, sym, take, drop, list_any, arith}
use Rattle.cats_text.proofs.Scanning.ManyBytes.{none_more}
use Rattle.cats_text.proofs.scanner.groups_without_line_feed.Goals as goal

pub loop-offset-preserved : goal.loop-offset-preserved
loop-offset-preserved c =
    let bytes = c.args.bytes.now in
    let offset = c.loop-offset.offset in
    let size : offset + 64 - offset ≡ 64 = omega arith in
    let none : list_any (λ b. eqb b 10) (take 64 (drop offset bytes)) ≡ false =
    subst (λ k. list_any (λ b. eqb b 10) (take k (drop offset bytes)) ≡ false) size (sym c.contains.ensures.value ∙ c.if-not-contains.true) in
    (omega (arith, c.loop-offset-test.true, c.loop-offset.invariant.0), none_more (λ b. eqb b 10) bytes offset 64 c.loop-offset.invariant.1 none)
