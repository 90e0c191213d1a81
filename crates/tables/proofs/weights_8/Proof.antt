-- `weights_8` hands out the table of 8 points: the checker tests the fold rule at every entry. Assumes nothing.
use mathlib.Core.Path.{refl}
use Rattle.meaning.specs.Weights.{S, fold, first}
use Rattle.tables.proofs.Stored.{stored}
use Rattle.tables.proofs.weights_8.Statement.{statement}
use Rattle.tables.proofs.weights_8.Tie as tie

returns : tie.Need-returns
unfolding S fold first
returns c = stored 8 _ refl tt

pub weights_8_spec : {M : Type 1} → statement M
weights_8_spec = tie.close (tie.spec returns)
