-- `sample_of` meets its contract. Assumes nothing.
use mathlib.Core.Path.{refl}
use mir.Syntax.{w32}
use Rattle.algebra.proofs.Machine.{MV, arg≤, lit, add, add-fits, val}
use Rattle.picture_samples.proofs.SampleSizes.{inside}
use native.Mathlib.Omega.{arith}
use Rattle.picture_samples.proofs.put.sample_of.Statement.{statement}
use Rattle.picture_samples.proofs.put.sample_of.Tie as tie

abbrev z : tie.Start → MV w32
z c = arg≤ c.ranges.z (inside c.args.z c.requires).size

abbrev sum : tie.Start → MV w32
sum c = add (z c) (lit w32 32768) tt

add-result : tie.Need-overflow_add-result
add-result c = add-fits (z c) (lit w32 32768) tt

cast-result : tie.Need-overflow_cast-result
cast-result c = let i = inside c.args.z c.requires in rw (val (sum c)) (i.whole, record { fits = omega (arith, i.low) })

returns : tie.Need-returns
returns c = let i = inside c.args.z c.requires in rw (val (sum c)) (refl, i.low)

pub sample_of_spec : {M : Type 1} → statement M
sample_of_spec = tie.close (tie.spec add-result cast-result returns)
