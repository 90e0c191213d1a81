-- The sums before g have their product, the others are as they were. Assumes nothing.
use Rattle.std.proofs.Common.{◌+ℤ◌, ◌*ℤ◌}
use Rattle.algebra.specs.Lists.{at}
use Rattle.algebra.proofs.Lists.{Filled}
use Rattle.meaning.specs.Weights.{S}
use Rattle.shared_steps.proofs.sums.row.Given as goal

abbrev pub invariant-loop-g : goal.invariant-loop-g
invariant-loop-g l = Filled 0 l.g l.a l.initial.a (λ k. at l.initial.a k +ℤ S l.n l.i k *ℤ l.v)
