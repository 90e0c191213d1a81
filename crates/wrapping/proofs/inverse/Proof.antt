-- `inverse` meets its contract: a line by its terms is the inverse line. Assumes nothing.
use Rattle.std.proofs.Common.{rules}
use Rattle.meaning.specs.Line.{inverse_sum, inverse_line}
use Rattle.wrapping.proofs.inverse.Statement.{statement}
use Rattle.wrapping.proofs.inverse.Tie as tie

total-requires : tie.Need-total-requires
total-requires c κs = search rules

same_length : tie.Need-shape_of-y
same_length c = search rules

returns : tie.Need-returns
unfolding inverse_line inverse_sum
returns c = c.before.total.ensures

pub inverse_spec : {M : Type 1} → statement M
inverse_spec = tie.close (tie.spec total-requires same_length returns)
