-- `sort_key`
use Rattle.goods_set.proofs.Common.{◌≡◌, ℕ, List, Option, ap, ◌∙◌, unwrap_or, slice_get, unwrap_or-slice_get}
use Rattle.goods_set.proofs.Places.{first_good}
use Rattle.goods_set.proofs.sort_keys.sort_key.Goals as goal

pub returns : goal.returns
returns g c =
    let goods : List ℕ = g.S.GoodsSet.goods c.args.set.now in
    let first : c.next_from-first.result ≡ slice_get goods 0 = c.next_from-first.ensures ∙ first_good goods in
    let second : c.good_behind-second.result ≡ slice_get goods 1 = c.good_behind-second.ensures 0 first in
    let third : c.good_behind-third.result ≡ slice_get goods 2 = c.good_behind-third.ensures 1 second in
    c.key_from.ensures goods c.size.ensures
    (c.unwrap_or.ensures ∙ ap (λ (o : Option ℕ). unwrap_or o 0) first ∙ unwrap_or-slice_get goods 0 0)
    (c.unwrap_or-2.ensures ∙ ap (λ (o : Option ℕ). unwrap_or o 0) second ∙ unwrap_or-slice_get goods 1 0)
    (c.unwrap_or-3.ensures ∙ ap (λ (o : Option ℕ). unwrap_or o 0) third ∙ unwrap_or-slice_get goods 2 0)
