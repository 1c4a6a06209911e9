-- `alike_files_are_the_same_auction`
use Rattle.canon.proofs.TwoFiles.Alike.{same_from_alike}
use Rattle.canon.proofs.laws.alike_files_are_the_same_auction.Goals as goal

pub returns : goal.returns
returns c f g h k alike = same_from_alike f g h k alike
