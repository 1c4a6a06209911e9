-- `FilesInMemory::is_taken`
use Rattle.std.proofs.Common.{ap₂, ◌∙◌, List, ℕ}
use Rattle.cats_cmd.specs.Stores.{path_in}
use Rattle.program_tests.proofs.TextsInMemory.{may_have}
use Rattle.program_tests.proofs.runs.memory.FilesInMemorySource.is_taken.Goals as goal

pub returns : goal.returns
returns c = may_have _ c.as_slice-2.result.now c.args.self.now.texts.items c.as_slice.result.now c.has_text.result
    (c.as_slice-2.ensures.value ∙ c.in_ok-path.ensures ∙ ap₂ (λ (f p : List ℕ). path_in f p) c.as_bytes.ensures.value c.as_bytes-2.ensures.value)
    c.as_slice.ensures.value c.has_text.ensures
