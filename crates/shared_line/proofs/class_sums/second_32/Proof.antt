-- `class_sums::second_32` meets its contract. Assumes nothing. Made by crates/shared_line/make; do not edit.
use native.Mathlib.Omega.{arith}
use Rattle.shared_steps.specs.Folds.{class_of}
use Rattle.shared_steps.proofs.Classes.{class-is}
use Rattle.shared_steps.proofs.Adding.{from_row, row-summed, zero-summed, sums-small, adding-long}
use Rattle.shared_line.proofs.class_sums.second_32.Statement.{statement}
use Rattle.shared_line.proofs.class_sums.second_32.Tie as tie

row-requires : tie.Need-row-requires
row-requires c κs = (omega arith, from_row 2 (omega arith) c.before.requires.0)

row-requires-2 : tie.Need-row-requires-2
row-requires-2 c κs = (omega arith, from_row 7 (omega arith) c.before.before.row.ensures.1)

row-requires-3 : tie.Need-row-requires-3
row-requires-3 c κs = (omega arith, from_row 12 (omega arith) c.before.before.row-2.ensures.1)

row-requires-4 : tie.Need-row-requires-4
row-requires-4 c κs = (omega arith, from_row 17 (omega arith) c.before.before.row-3.ensures.1)

row-requires-5 : tie.Need-row-requires-5
row-requires-5 c κs = (omega arith, from_row 22 (omega arith) c.before.before.row-4.ensures.1)

row-requires-6 : tie.Need-row-requires-6
row-requires-6 c κs = (omega arith, from_row 27 (omega arith) c.before.before.row-5.ensures.1)

same_length : tie.Need-shape_of-a
same_length c =
    let c6 = c.before in
    let c5 = c6.before.before.before in
    let c4 = c5.before.before.before in
    let c3 = c4.before.before.before in
    let c2 = c3.before.before.before in
    let c1 = c2.before.before.before in
    adding-long c1.before.before.requires.0 c6.row-6.ensures.1

returns : tie.Need-returns
unfolding class_of
returns c =
    let c6 = c.before in
    let c5 = c6.before.before.before in
    let c4 = c5.before.before.before in
    let c3 = c4.before.before.before in
    let c2 = c3.before.before.before in
    let c1 = c2.before.before.before in
    (class-is tt (row-summed (row-summed (row-summed (row-summed (row-summed (row-summed (zero-summed 6 c1.before.before.requires.1) c1.row.ensures.0) c2.row-2.ensures.0) c3.row-3.ensures.0) c4.row-4.ensures.0) c5.row-5.ensures.0) c6.row-6.ensures.0), sums-small (omega arith) c6.row-6.ensures.1)

pub second_32_spec : {M : Type 1} → statement M
second_32_spec = tie.close (tie.spec row-requires row-requires-2 row-requires-3 row-requires-4 row-requires-5 row-requires-6 same_length returns)
