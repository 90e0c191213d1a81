-- `weights_32` hands out the table of 32 points: the checker tests the fold rule at every entry. Assumes nothing.
use mathlib.Core.Path.{refl}
use Rattle.meaning.specs.Weights.{S, fold, first}
use Rattle.tables.proofs.Stored.{stored}
use Rattle.tables.proofs.weights_32.Statement.{statement}
use Rattle.tables.proofs.weights_32.Tie as tie

returns : tie.Need-returns
unfolding S fold first
returns c = stored 32 _ refl tt

pub weights_32_spec : {M : Type 1} → statement M
weights_32_spec = tie.close (tie.spec returns)
