use Rattle.std.proofs.Common.{◌≤◌}
use Rattle.published_weights.proofs.norms.farthest.Given as goal

abbrev pub invariant-loop-i : goal.invariant-loop-i
invariant-loop-i l = l.most ≤ 1048576
