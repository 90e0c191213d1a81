-- `forward::leading_inputs_32` meets its contract. Assumes nothing.
use native.Mathlib.Omega.{arith}
use mathlib.Core.Path.{sym, ◌∙◌}
use Rattle.shared_line.proofs.forward.leading_inputs_32.Statement.{statement}
use Rattle.shared_line.proofs.forward.leading_inputs_32.Tie as tie

gather-requires : tie.Need-gather-requires
gather-requires c κs = (c.before.requires.0, ((omega arith, omega arith), c.before.requires.1))

gather-requires-2 : tie.Need-gather-requires-2
gather-requires-2 c κs = (c.before.before.before.before.requires.0, ((omega arith, omega arith), c.before.before.gather.ensures))

gather-requires-3 : tie.Need-gather-requires-3
gather-requires-3 c κs = (c.before.before.before.before.before.before.before.requires.0, ((omega arith, omega arith), c.before.before.gather-2.ensures))

gather-requires-4 : tie.Need-gather-requires-4
gather-requires-4 c κs = (c.before.before.before.before.before.before.before.before.before.before.requires.0, ((omega arith, omega arith), c.before.before.gather-3.ensures))

same_length : tie.Need-shape_of-t
same_length c = c.before.gather-4.ensures.long ∙ sym c.before.before.before.before.before.before.before.before.before.before.before.before.requires.1.long

returns : tie.Need-returns
returns c = c.before.gather-4.ensures

pub leading_inputs_32_spec : {M : Type 1} → statement M
leading_inputs_32_spec =
    tie.close
    (tie.spec
    gather-requires
    gather-requires-2
    gather-requires-3
    gather-requires-4
    same_length
    returns)
