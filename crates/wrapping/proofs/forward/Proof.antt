-- `forward` meets its contract: a line by its terms is the forward line. Assumes nothing.
use Rattle.std.proofs.Common.{rules}
use Rattle.meaning.specs.Line.{forward_sum, forward_line}
use Rattle.wrapping.proofs.forward.Statement.{statement}
use Rattle.wrapping.proofs.forward.Tie as tie

total-requires : tie.Need-total-requires
total-requires c κs = search rules

same_length : tie.Need-shape_of-y
same_length c = search rules

returns : tie.Need-returns
unfolding forward_line forward_sum
returns c = c.before.total.ensures

pub forward_spec : {M : Type 1} → statement M
forward_spec = tie.close (tie.spec total-requires same_length returns)
