-- `write_goods`
use Rattle.cats_text.proofs.Common.{◌≡◌, ◌-◌, ◌≤◌, ◌∷◌, ◌++◌, length, take, drop, get_or, decimal, ap, ◌∙◌, arith, length-decimal-le, length-take-le, tabbed}
use Rattle.cats_text.proofs.Writing.Ends.{last_good, shorter_prefix, last_of_prefix}
use Rattle.cats_text.proofs.layout.write_goods.Goals as goal

pub write_good-start-requires-clause-space : goal.write_good-start-requires-clause-space
write_good-start-requires-clause-space c =
    let l = c.loop-left in
    let some = c.in-len1-up.len_at_least in
    let good : c.from.result ≡ get_or c.args.goods.now (length l.left.now - 1) 0 =
    c.from.ensures ∙ last_of_prefix l.left.now c.args.goods.now some l.invariant.3 in
    let fits = (c.type_inv.goods (length l.left.now - 1)).fits in
    omega (arith, l.invariant.0, length-decimal-le 5 c.from.result (omega arith) (omega arith) (omega arith))

pub loop-left-preserved : goal.loop-left-preserved
loop-left-preserved c =
    let l = c.loop-left in
    let some = c.in-len1-up.len_at_least in
    let good : c.from.result ≡ get_or c.args.goods.now (length l.left.now - 1) 0 =
    c.from.ensures ∙ last_of_prefix l.left.now c.args.goods.now some l.invariant.3 in
    let fits = (c.type_inv.goods (length l.left.now - 1)).fits in
    let digits : length (decimal c.from.result) ≤ 5 = length-decimal-le 5 c.from.result (omega arith) (omega arith) (omega arith) in
    let prefix = take (length l.left.now - 1) l.left.now in
    let fewer = length-take-le (length l.left.now - 1) l.left.now (omega arith) in (
      omega (arith, l.invariant.0, c.write_good-start.ensures.start),
      omega (arith, l.invariant.1, c.write_good-start.ensures.start),
      omega (arith, l.invariant.2, c.write_good-start.ensures.start, digits),
      shorter_prefix l.left.now c.args.goods.now l.invariant.3,
      ap (λ t. tabbed prefix ++ t) (c.write_good-start.ensures.written ∙ ap (λ g. (9 ∷ decimal g) ++ drop l.start l.text) c.from.ensures)
          ∙ last_good l.left.now (drop l.start l.text) some ∙ l.invariant.4,
    )
