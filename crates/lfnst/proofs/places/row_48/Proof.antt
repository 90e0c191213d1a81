-- `row_48` meets its contract. Assumes nothing.
use Rattle.lfnst.proofs.places.row_48.Statement.{statement}
use Rattle.lfnst.proofs.places.row_48.Tie as tie

turned-requires : tie.Need-turned-requires
turned-requires c κs = c.before.before.requires

straight-requires : tie.Need-straight-requires
straight-requires c κs = c.before.before.requires

same_length : tie.Need-shape_of-numbers-then-transposed
same_length c = c.before.turned.ensures.long

returns : tie.Need-returns-then-transposed
returns c = rw c.before.before.before.if-transposed.true c.before.turned.ensures

same-length-2 : tie.Need-shape_of-numbers-else-transposed
same-length-2 c = c.before.straight.ensures.long

returns-2 : tie.Need-returns-else-transposed
returns-2 c = rw c.before.before.before.if-transposed.false c.before.straight.ensures

pub row_48_spec : {M : Type 1} → statement M
row_48_spec =
    tie.close
    (tie.spec turned-requires straight-requires same_length returns same-length-2 returns-2)
