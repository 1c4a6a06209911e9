-- `same_folders_are_the_same_auctions`
use Rattle.cats_cmd.proofs.SameFolders.{all_same, none_greater, same_below}
use Rattle.cats_cmd.proofs.laws.same_folders_are_the_same_auctions.Goals as goal

pub returns : goal.returns
returns g c = record {
  status = all_same;
  rows = none_greater;
  auctions = λ source request folders rows are each is path there. same_below _ _ _ request folders rows are each is path there;
}
