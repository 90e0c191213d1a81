-- A run from the cells before a step is the run from its start. Assumes nothing.
use Rattle.std.proofs.Common.{◌≡◌, ◌*◌, ◌≤◌, drop}
use Rattle.steps.specs.Steps.{run}
use Rattle.steps.specs.Numbers.{decode}
use Rattle.steps.specs.Outcome.{whole_numbers}
use Rattle.step_run.specs.Parts.{state}
use Rattle.step_run.proofs.run.follow.Given as goal

abbrev pub invariant-loop-k : goal.invariant-loop-k
invariant-loop-k l =
    (l.count ≤ l.k)
    × (run whole_numbers l.n (decode (drop (4 * l.k) l.steps)) (state l.values l.written l.count) ≡ run whole_numbers l.n (decode l.steps) (state l.initial.values l.initial.written 0))
