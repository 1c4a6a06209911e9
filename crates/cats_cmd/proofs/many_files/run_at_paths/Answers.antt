-- `run_at_paths`
use Rattle.cats_cmd.proofs.Common.{inl, map, opening_of}
use Rattle.cats_cmd.proofs.FilesOfPaths.{files_opened}
use Rattle.cats_cmd.proofs.many_files.run_at_paths.Goals as goal

pub returns-clause-runs : goal.returns-clause-runs
returns-clause-runs g c =
    inl (record {
      files = map (λ file. file.path.now) c.as_slice-2.result.now;
      are = files_opened _ c.args.many.way _ c.as_slice-2.result.now
          (rw (c.as_slice-2.ensures.value, c.in_ok-files.ensures, c.as_slice.ensures.value) c.in_ok-found.ensures);
      runs = c.run_on_paths.ensures.runs;
    })

pub returns-clause-opens : goal.returns-clause-opens
returns-clause-opens g c =
    inl (record {
      openings = map opening_of c.as_slice-2.result.now;
      are = rw (c.as_slice-2.ensures.value, c.in_ok-files.ensures, c.as_slice.ensures.value) c.in_ok-found.ensures;
      opens = c.run_on_paths.ensures.opens;
    })
