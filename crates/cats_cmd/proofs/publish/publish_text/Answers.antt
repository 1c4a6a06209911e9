-- `publish_text`
use Rattle.cats_cmd.proofs.Common.{None, Some, refl}
use Rattle.cats_cmd.proofs.Storing.{attempt_failed, attempt_written}
use Rattle.cats_cmd.proofs.publish.publish_text.Goals as goal

pub returns-in-Ok-clause-writes : goal.returns-in-Ok-clause-writes
returns-in-Ok-clause-writes g c = record {
  unwritten = None;
  wrote = attempt_written _ _ _ _ (rw (c.in-Ok.is, c.folder.ensures, c.text_path-place.ensures) at c.in_ok-write_text.ensures.writes).more;
  is_fault = refl;
  is_line = rw c.text_path-place.ensures at c.in_ok-line.ensures;
}

pub returns-in_ok-text-in-Err-clause-writes : goal.returns-in_ok-text-in-Err-clause-writes
returns-in_ok-text-in-Err-clause-writes g c =
    let writes = rw (c.in-Err.is, c.folder.ensures, c.text_path-place.ensures) at c.in_ok-write_text.ensures.writes in
    record {
      unwritten = Some c.in-Err.why;
      wrote = attempt_failed _ _ _ _ c.in-Err.why writes.0 writes.1;
      is_fault = refl;
      is_line = c.in_ok-text-in-Err.ensures;
    }
