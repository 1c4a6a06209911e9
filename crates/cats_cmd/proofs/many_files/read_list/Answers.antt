-- `read_list`
use Rattle.cats_cmd.proofs.ListingPaths.{list_unread}
use Rattle.cats_cmd.proofs.many_files.read_list.Goals as goal

pub returns-clause-unread : goal.returns-clause-unread
returns-clause-unread g c =
    rw (c.from-in-Err-read_bytes.ensures, c.from.ensures)
    (list_unread _ _ _ c.args.list.now _ _ c.in-Ok.ensures.opened c.in-Err-read_bytes.fault c.in-Err-read_bytes.ensures)
