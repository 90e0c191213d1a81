-- The sum of the products before g, and its size. Assumes nothing.
use Rattle.std.proofs.Common.{◌≡◌, ◌*◌, ◌≤◌, nat_abs}
use Rattle.shared_steps.specs.Steps.{short_sum}
use Rattle.shared_steps.proofs.outputs.dot.Given as goal

abbrev pub invariant-loop-g : goal.invariant-loop-g
invariant-loop-g l = (l.sum ≡ short_sum l.n l.g l.t l.i) × (nat_abs l.sum ≤ l.g * (90 * 425984))
