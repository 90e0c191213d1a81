use Rattle.std.proofs.Common.{◌≡◌, ◌+◌, ◌*◌, ◌≤◌, drop}
use Rattle.block_row.specs.Numbers.{shapes_of}
use Rattle.block_row.specs.Row.{spans}
use Rattle.block_row.proofs.row.total.Given as goal

abbrev pub invariant-loop-i : goal.invariant-loop-i
invariant-loop-i l =
    (l.sum ≤ l.i * 1024) × (l.sum + spans (drop l.i (shapes_of l.count l.shapes)) ≡ spans (shapes_of l.count l.shapes))
