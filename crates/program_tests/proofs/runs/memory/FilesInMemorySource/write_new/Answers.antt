-- `FilesInMemory::write_new`
use Rattle.std.proofs.Common.{ap, ap₂, Some, ◌∙◌, List, ℕ}
use Rattle.cats_cmd.specs.Stores.{path_in}
use Rattle.program_tests.proofs.TextsInMemory.{lacks, more_shown}
use Rattle.program_tests.proofs.runs.memory.FilesInMemorySource.write_new.Goals as goal

pub returns-clause-writes : goal.returns-clause-writes
returns-clause-writes c =
    let is_path = c.in_ok-path.ensures ∙ ap₂ (λ (f p : List ℕ). path_in f p) c.as_bytes.ensures.value c.as_bytes-2.ensures.value in
    record {
      absent = lacks _ c.as_slice-2.result.now c.args.self.now.texts.items c.as_slice.result.now c.has_text.result (c.as_slice-2.ensures.value ∙ is_path)
          c.as_slice.ensures.value c.has_text.ensures c.if-has_text.false;
      more = ap (λ (texts : List (List ℕ × List ℕ)). Some texts)
          (more_shown _ c.args.text.now c.args.self.now.texts.items c.push.new.self.items c.in_ok-path.path c.in_ok-text.text c.in_ok-push.ensures.items is_path
          c.in_ok-text.ensures.items);
    }
