-- `put_64` writes the weights of 64 points, by one computed test. Assumes nothing.
use mathlib.Core.Path.{refl}
use Rattle.meaning.specs.Weights.{dct2, turn, cosines}
use Rattle.tables.proofs.Pairs.{laid_by}
use Rattle.transform_stages.proofs.table.put_64.Statement.{statement}
use Rattle.transform_stages.proofs.table.put_64.Tie as tie

returns : tie.Need-returns
unfolding dct2 turn cosines
returns c = (refl, laid_by 64 16 (dct2 64) _ tt refl)

pub put_64_spec : {M : Type 1} → statement M
put_64_spec = tie.close (tie.spec returns)
