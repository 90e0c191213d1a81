-- `has_low` meets its contract. Assumes nothing.
use mathlib.Core.Path.{refl}
use Rattle.transform_block.specs.TransformBlock.{has_low}
use Rattle.transform_block.proofs.rules.has_low.Statement.{statement}
use Rattle.transform_block.proofs.rules.has_low.Tie as tie

returns : tie.Need-returns
unfolding has_low
returns c = refl

pub has_low_spec : {M : Type 1} → statement M
has_low_spec = tie.close (tie.spec returns)
