-- From column x on there is nothing. Assumes nothing.
use mathlib.Core.Path.{◌≡◌}
use Prim.Native.Nat.{ℕ, ◌+◌, ◌*◌, ◌≤◌, ◌<◌}
use lib.IntN.{pos}
use Rattle.algebra.specs.Lists.{at}
use Rattle.long_stages.proofs.live.column_pairs.Given as goal

abbrev pub invariant-loop-x : goal.invariant-loop-x
invariant-loop-x l = (x i : ℕ) → l.x ≤ x → x < l.w → i < l.rows → at l.c (x + i * l.w) ≡ pos 0
