-- `class_sums::third_32` meets its contract. Assumes nothing. Made by crates/shared_line/make; do not edit.
use native.Mathlib.Omega.{arith}
use Rattle.shared_steps.specs.Folds.{class_of}
use Rattle.shared_steps.proofs.Classes.{class-is}
use Rattle.shared_steps.proofs.Adding.{from_row, row-summed, zero-summed, sums-small, adding-long}
use Rattle.shared_line.proofs.class_sums.third_32.Statement.{statement}
use Rattle.shared_line.proofs.class_sums.third_32.Tie as tie

row-requires : tie.Need-row-requires
row-requires c κs = (omega arith, from_row 6 (omega arith) c.before.requires.0)

row-requires-2 : tie.Need-row-requires-2
row-requires-2 c κs = (omega arith, from_row 19 (omega arith) c.before.before.row.ensures.1)

same_length : tie.Need-shape_of-a
same_length c =
    let c2 = c.before in
    let c1 = c2.before.before.before in
    adding-long c1.before.before.requires.0 c2.row-2.ensures.1

returns : tie.Need-returns
unfolding class_of
returns c =
    let c2 = c.before in
    let c1 = c2.before.before.before in
    (class-is tt (row-summed (row-summed (zero-summed 2 c1.before.before.requires.1) c1.row.ensures.0) c2.row-2.ensures.0), sums-small (omega arith) c2.row-2.ensures.1)

pub third_32_spec : {M : Type 1} → statement M
third_32_spec = tie.close (tie.spec row-requires row-requires-2 same_length returns)
