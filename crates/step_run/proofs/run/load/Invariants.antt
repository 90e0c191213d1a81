-- The first i cells hold the inputs and are written. Assumes nothing.
use Rattle.std.proofs.Common.{◌≡◌, ◌++◌, length, take, drop, true}
use lib.ListN.{replicate}
use Rattle.step_run.proofs.run.load.Given as goal

abbrev pub invariant-loop-i : goal.invariant-loop-i
invariant-loop-i l =
    (l.values ≡ take l.i l.x ++ drop l.i l.initial.values) × (l.written ≡ take l.i (replicate (length l.x) true) ++ drop l.i l.initial.written)
