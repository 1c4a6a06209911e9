-- `ListSetGoodsSet::put`
use Rattle.goods_set.proofs.Common.{◌≡◌, rules, List, ℕ, sym, subst, Result, Ok, Err, OnOk, OnErr, IsBundle, IsBundle-with_good, with_good_there}
use Rattle.goods_set.proofs.list_set.ListSetGoodsSet.put.Goals as goal

-- the goods are a bundle, whether the good was put in or memory was refused
either : {T E : Type 0} (r : Result T E) (new old other : List ℕ) → OnOk r (new ≡ other) → OnErr r (new ≡ old) → IsBundle 65536 old → IsBundle 65536 other
    → IsBundle 65536 new
either (Ok x) new old other put same before after = subst (λ (zs : List ℕ). IsBundle 65536 zs) (sym put) after
either (Err x) new old other put same before after = subst (λ (zs : List ℕ). IsBundle 65536 zs) (sym same) before

pub invariant_of-self : goal.invariant_of-self
invariant_of-self c = search (rules, either, IsBundle-with_good)

pub returns-in-Ok-clause-goods : goal.returns-in-Ok-clause-goods
returns-in-Ok-clause-goods c = search (rules, with_good_there)

pub returns-in-Ok-clause-added : goal.returns-in-Ok-clause-added
returns-in-Ok-clause-added c = search rules
