-- `last_shift` meets its contract. Assumes nothing.
use native.Mathlib.Omega.{arith}
use mathlib.Core.Path.{refl}
use Prim.Native.Nat.{◌≤◌}
use Rattle.meaning.proofs.Cases.{depth-cases}
use Rattle.inverse_stage.proofs.shift.last_shift.Statement.{statement}
use Rattle.inverse_stage.proofs.shift.last_shift.Tie as tie

depth : (s : tie.Start) → (8 ≤ s.args.shape.depth) × (s.args.shape.depth ≤ 12)
depth s = depth-cases s.args.shape.depth s.requires

sub-result : tie.Need-overflow_sub-result
sub-result c = omega (arith, depth c.before)

returns : tie.Need-returns
returns c = let d = depth c.before in (refl, (omega arith, omega arith))

pub last_shift_spec : {M : Type 1} → statement M
last_shift_spec = tie.close (tie.spec sub-result returns)
