-- No output cell so far is refused. Assumes nothing.
use Rattle.std.proofs.Common.{◌≡◌, drop}
use Rattle.step_run.specs.Parts.{outs_refusal}
use Rattle.step_run.proofs.run.unread.Given as goal

abbrev pub invariant-loop-out : goal.invariant-loop-out
invariant-loop-out l = outs_refusal l.n l.written l.outs ≡ outs_refusal l.n l.written (drop l.out-index l.outs)
