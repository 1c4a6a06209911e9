-- `sort_keys_worked`
use Rattle.goods_set.proofs.Common.{refl, lit<}
use Rattle.goods_set.specs.SortKeys.{sort_key_of, first_goods}
use Rattle.goods_set.proofs.worked.sort_keys_worked.Goals as goal

pub returns-clause-no_goods : goal.returns-clause-no_goods
unfolding sort_key_of first_goods
returns-clause-no_goods c = refl

pub returns-clause-one_good : goal.returns-clause-one_good
unfolding sort_key_of first_goods
returns-clause-one_good c = refl

pub returns-clause-two_goods : goal.returns-clause-two_goods
unfolding sort_key_of first_goods
returns-clause-two_goods c = refl

pub returns-clause-three_goods : goal.returns-clause-three_goods
unfolding sort_key_of first_goods
returns-clause-three_goods c = refl

pub returns-clause-size_first : goal.returns-clause-size_first
unfolding sort_key_of first_goods
returns-clause-size_first c = lit< tt

pub returns-clause-fourth_left_out : goal.returns-clause-fourth_left_out
unfolding sort_key_of first_goods
returns-clause-fourth_left_out c = refl
