use Rattle.std.proofs.Common.{◌≤◌, ◌*◌}
use Rattle.published_weights.proofs.letters.agreeing_rows.Given as goal

abbrev pub invariant-loop-i : goal.invariant-loop-i
invariant-loop-i l = l.good ≤ 16 * l.i-index
