-- `zipped_2` hands out the weights of 2 points, by one computed test. Assumes nothing.
use mathlib.Core.Path.{refl}
use Rattle.meaning.specs.Weights.{dct2, turn, cosines}
use Rattle.tables.proofs.Pairs.{laid_by}
use Rattle.transform_stages.proofs.table.zipped_2.Statement.{statement}
use Rattle.transform_stages.proofs.table.zipped_2.Tie as tie

returns : tie.Need-returns
unfolding dct2 turn cosines
returns c = laid_by 2 1 (dct2 2) _ tt refl

pub zipped_2_spec : {M : Type 1} → statement M
zipped_2_spec = tie.close (tie.spec returns)
