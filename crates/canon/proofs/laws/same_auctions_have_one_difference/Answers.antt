-- `same_auctions_have_one_difference`
use Rattle.canon.proofs.Common.{rules}
use Rattle.canon.proofs.CanonicalAuctions.Sames.{HasAtoms-auction}
use Rattle.canon.proofs.TwoFiles.SameDifferences.{difference_same, difference_of_same_files}
use Rattle.canon.proofs.laws.same_auctions_have_one_difference.Goals as goal

pub returns : goal.returns
returns c = search (rules, difference_same, HasAtoms-auction, difference_of_same_files)
