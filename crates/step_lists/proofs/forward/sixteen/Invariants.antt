-- What was read is at most 32768 in size. Assumes nothing.
use Rattle.std.proofs.Common.{ℕ, ◌<◌, ◌≤◌, nat_abs}
use Rattle.algebra.specs.Lists.{at}
use Rattle.step_lists.proofs.forward.sixteen.Given as goal

abbrev pub invariant-loop-v : goal.invariant-loop-v
invariant-loop-v l = (k : ℕ) → k < l.v-index → nat_abs (at l.x k) ≤ 32768
