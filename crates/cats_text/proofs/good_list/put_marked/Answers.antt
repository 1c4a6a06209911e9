-- `put_marked`
use Rattle.cats_text.proofs.Common.{◌≡◌, ◌≢◌, ◌<◌, false, eqb, get_or, length, rules, sym, ap, ◌∙◌, arith, ne_eqb, common_steps, has_good}
use Rattle.cats_text.proofs.Spelling.Marks.{IsMarked-push, IsMarked-covered}
use Rattle.cats_text.proofs.good_list.put_marked.Goals as goal

pub returns-clause-marked : goal.returns-clause-marked
returns-clause-marked c =
    let goods = c.args.goods.now.items in
    let mark = c.args.bid_mark in
    let index : c.from-index.result ≡ c.args.good = search rules in
    let other : get_or c.cover.new.marks.items c.args.good 0 ≢ mark = first_of (search rules, grind (arith, common_steps)) in
    let new : has_good goods c.args.good ≡ false = sym (c.requires.marked c.args.good)
    ∙ ap (λ n. eqb n mark) (sym (c.cover.ensures.same c.args.good)) ∙ ne_eqb _ _ other in
    let there : c.args.good < length c.cover.new.marks.items = search rules in
    rw (c.in_ok-push.ensures.items, index)
    (IsMarked-push goods c.cover.new.marks.items mark c.args.good
    (IsMarked-covered goods c.args.marks.now.items c.cover.new.marks.items mark c.requires c.cover.ensures.same) new there)
