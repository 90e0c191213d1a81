use Rattle.std.proofs.Common.{◌<◌}
use Rattle.blocks_why.proofs.text.write_decimals.Given as goal

abbrev pub invariant-loop-digit : goal.invariant-loop-digit
invariant-loop-digit g l = l.left < l.divisor
