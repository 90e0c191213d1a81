-- The numbers before k are written, and each was one of 16 bits. Assumes nothing.
use Prim.Native.Nat.{ℕ, ◌<◌}
use mir.Syntax.{w16}
use mir.Val.{SFits}
use Rattle.algebra.specs.Lists.{at}
use Rattle.algebra.proofs.Lists.{Filled}
use Rattle.long_stages.proofs.wide.widen.Given as goal

abbrev pub invariant-loop-k : goal.invariant-loop-k
invariant-loop-k l = Filled 0 l.k l.out l.initial.out (at l.c) × ((i : ℕ) → i < l.k → SFits w16 (at l.c i))
