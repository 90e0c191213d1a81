use Rattle.std.proofs.Common.{◌≤◌, ◌*◌, ◌<◌}
use Rattle.published_weights.proofs.norms.squares.Given as goal

abbrev pub invariant-loop-j : goal.invariant-loop-j
invariant-loop-j l = (l.m < l.l) × (l.sum ≤ l._j * 16384)
