-- Where none was found, none before k is outside the range. Assumes nothing.
use mathlib.Core.Path.{◌≡◌}
use mathlib.Core.Bool.{false}
use Prim.Native.Nat.{ℕ, ◌<◌}
use Rattle.algebra.specs.Lists.{at}
use Rattle.meaning.specs.Plan.{range_of}
use Rattle.meaning.specs.Long.{beyond}
use Rattle.transform_hunt.proofs.any_long.Given as goal

abbrev pub invariant-loop-k : goal.invariant-loop-k
invariant-loop-k l = l.found ≡ false → (i : ℕ) → i < l.k → beyond (range_of 15) (at l.c i) ≡ false
