-- `off` meets its contract. Assumes nothing.
use borrow.Author.Rules.{rules}
use borrow.Author.Tests.{eq-eqb, ne_eqb}
use native.Mathlib.Omega.{arith}
use Prim.Native.Nat.{◌*◌}
use mir.Syntax.{w32}
use mir.ValLaws.{to_z_pos}
use Rattle.round_trip.proofs.off.Statement.{statement}
use Rattle.round_trip.proofs.off.Tie as tie

mul-result : tie.Need-overflow_mul-result
mul-result c = search rules

cast-result : tie.Need-overflow_cast-result
cast-result c = search rules

returns : tie.Need-returns-then-k-j
returns c = rw (eq-eqb _ _ c.if-k-j.true) (to_z_pos w32 (4096 * c.before.args.n) (omega (arith, c.before.requires)))

returns-2 : tie.Need-returns-else-k-j
returns-2 c = rw (ne_eqb _ _ c.if-k-j.false)

pub off_spec : {M : Type 1} → statement M
off_spec = tie.close (tie.spec mul-result cast-result returns returns-2)
