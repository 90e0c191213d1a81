-- `residual` meets its contract. Assumes nothing.
use native.Mathlib.Omega.{arith}
use Prim.Native.Nat.{ℕ, ◌+◌, ◌*◌, ◌<◌}
use mir.Syntax.{w32}
use lib.IntN.{pos}
use mir.ValLaws.{to_z_pos}
use Rattle.algebra.proofs.Word.{Is, sub-fits, sub_v, lit}
use lib.Dec.{lit<}
use Rattle.picture_samples.specs.Samples.{residual_of}
use borrow.Author.Rules.{rules}
use Rattle.picture_samples.proofs.read.residual.Statement.{statement}
use Rattle.picture_samples.proofs.read.residual.Tie as tie

sample : (n : ℕ) → n < 65536 → Is w32 n (pos n) 65535
sample n h = record { val = to_z_pos w32 n (omega arith); abs = omega arith }

mul-sample : tie.Need-overflow_mul-sample
mul-sample c = search rules

add-sample : tie.Need-overflow_add-sample
add-sample c = search rules

cast-result : tie.Need-overflow_cast-result
cast-result c = search rules

sub-result : tie.Need-overflow_sub-result
sub-result c = sub-fits (sample (c.args.high * 256 + c.args.low) (omega arith)) (lit w32 32768) (lit< tt)

returns : tie.Need-returns
unfolding residual_of
returns c = (sub_v (sample (c.args.high * 256 + c.args.low) (omega arith)) (lit w32 32768) (lit< tt)).val

pub residual_spec : {M : Type 1} → statement M
residual_spec = tie.close (tie.spec mul-sample add-sample cast-result sub-result returns)
