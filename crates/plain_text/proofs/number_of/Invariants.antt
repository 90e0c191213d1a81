use Rattle.std.proofs.Common.{◌≤◌}
use Rattle.plain_text.proofs.number_of.Given as goal

abbrev pub invariant-loop-byte : goal.invariant-loop-byte
invariant-loop-byte l = l.n ≤ 99999
