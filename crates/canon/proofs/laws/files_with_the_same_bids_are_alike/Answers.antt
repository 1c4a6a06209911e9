-- `files_with_the_same_bids_are_alike`
use Rattle.canon.proofs.Common.{rules, Contains-permutation, IsPermutation-sym}
use Rattle.canon.proofs.TwoFiles.Alike.{alike_by_bids}
use Rattle.canon.proofs.laws.files_with_the_same_bids_are_alike.Goals as goal

pub returns : goal.returns
returns c = search (rules, alike_by_bids, Contains-permutation, IsPermutation-sym)
