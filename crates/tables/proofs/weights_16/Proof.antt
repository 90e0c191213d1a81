-- `weights_16` hands out the table of 16 points: the checker tests the fold rule at every entry. Assumes nothing.
use mathlib.Core.Path.{refl}
use Rattle.meaning.specs.Weights.{S, fold, first}
use Rattle.tables.proofs.Stored.{stored}
use Rattle.tables.proofs.weights_16.Statement.{statement}
use Rattle.tables.proofs.weights_16.Tie as tie

returns : tie.Need-returns
unfolding S fold first
returns c = stored 16 _ refl tt

pub weights_16_spec : {M : Type 1} → statement M
weights_16_spec = tie.close (tie.spec returns)
