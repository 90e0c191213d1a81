use Rattle.std.proofs.Common.{◌≤◌}
use Rattle.published_weights.proofs.numbers.agreeing.Given as goal

abbrev pub invariant-loop-k : goal.invariant-loop-k
invariant-loop-k l = l.good ≤ l.k
