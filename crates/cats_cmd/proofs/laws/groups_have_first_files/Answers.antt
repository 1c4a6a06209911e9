-- `groups_have_first_files`
use Rattle.cats_cmd.proofs.GroupLaws.{among_numbered, each_is_in_one, first_of_group}
use Rattle.cats_cmd.proofs.laws.groups_have_first_files.Goals as goal

pub returns : goal.returns
returns c = record { numbers = among_numbered; firsts = first_of_group; each = each_is_in_one }
