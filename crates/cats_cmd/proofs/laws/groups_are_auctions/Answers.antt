-- `groups_are_auctions`
use Rattle.cats_cmd.proofs.Common.{canonical_text, unsearched_text}
use Rattle.cats_cmd.proofs.GroupLaws.{heavy_together, judged_together, never_together}
use Rattle.cats_cmd.proofs.laws.groups_are_auctions.Goals as goal

pub returns : goal.returns
returns c = record {
  judged = judged_together;
  refused = λ groups group file other heavy bid. heavy_together groups group file other;
  apart = λ groups group file other heavy. never_together groups group (canonical_text file) (unsearched_text other);
}
