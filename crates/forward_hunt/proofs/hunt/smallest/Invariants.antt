use Rattle.std.proofs.Common.{ℕ, ◌<◌, ◌≤ℤ◌}
use Rattle.algebra.specs.Lists.{at}
use Rattle.forward_hunt.proofs.hunt.smallest.Given as goal

-- of the numbers before z
abbrev pub invariant-loop-z : goal.invariant-loop-z
invariant-loop-z l = (k : ℕ) → k < l.z-index → l.m ≤ℤ at l.r k
