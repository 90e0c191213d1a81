-- R is the depth and 6, between 15 and 20. Assumes nothing.
use native.Mathlib.Omega.{arith}
use mathlib.Core.Path.{◌≡◌, sym}
use mathlib.Core.Bool.{Bool, true, false}
use Prim.Native.Nat.{ℕ, ◌+◌, max, min}
use Rattle.meaning.specs.Plan.{reach}
use Rattle.long_stages.proofs.rules.reach_of.Goals as goal

on : (extended : Bool) (d : ℕ) → extended ≡ true → reach extended d ≡ max 15 (min 20 (d + 6))
unfolding reach
on extended d e = rw e

off : (extended : Bool) (d : ℕ) → extended ≡ false → reach extended d ≡ 15
unfolding reach
off extended d e = rw e

pub returns-then-extended : goal.returns-then-extended
returns-then-extended c = omega (arith, on c.args.extended c.args.d c.if-extended.true)

pub returns-else-extended : goal.returns-else-extended
returns-else-extended c = sym (off c.args.extended c.args.d c.if-extended.false)
