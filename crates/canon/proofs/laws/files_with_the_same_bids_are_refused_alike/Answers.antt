-- `files_with_the_same_bids_are_refused_alike`
use Rattle.canon.proofs.TwoFiles.Alike.{refused_by_bids}
use Rattle.canon.proofs.laws.files_with_the_same_bids_are_refused_alike.Goals as goal

pub returns : goal.returns
returns c = refused_by_bids
