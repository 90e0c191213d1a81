-- What `run` counts lies in its buffer. Assumes nothing.
use Rattle.file_run.proofs.Counted.{run-counts}
use Rattle.file_program.proofs.answer.Goals as goal

pub slice_bounds-text-end : goal.slice_bounds-text-end
slice_bounds-text-end g c = (run-counts _ _ _ _ c.run-done.ensures).0

pub slice_bounds-write_all-end : goal.slice_bounds-write_all-end
slice_bounds-write_all-end g c = (run-counts _ _ _ _ c.run-done.ensures).1
