-- `is_on` meets its contract. Assumes nothing.
use mathlib.Core.Path.{refl}
use Rattle.transform_block.specs.TransformBlock.{is_on}
use Rattle.transform_block.proofs.rules.is_on.Statement.{statement}
use Rattle.transform_block.proofs.rules.is_on.Tie as tie

returns : tie.Need-returns
unfolding is_on
returns c = refl

pub is_on_spec : {M : Type 1} → statement M
is_on_spec = tie.close (tie.spec returns)
