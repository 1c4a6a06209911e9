-- `judge_path`
use Rattle.cats_cmd.proofs.compare_folders.judge_path.Goals as goal

pub returns-clause-opens : goal.returns-clause-opens
returns-clause-opens g c = rw (c.as_slice.ensures.value, c.as_slice-2.ensures.value) at c.judge_files.ensures.opens
