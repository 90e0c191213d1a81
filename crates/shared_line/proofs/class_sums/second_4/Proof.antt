-- `class_sums::second_4` meets its contract. Assumes nothing. Made by crates/shared_line/make; do not edit.
use native.Mathlib.Omega.{arith}
use Rattle.shared_steps.specs.Folds.{class_of}
use Rattle.shared_steps.proofs.Classes.{class-is}
use Rattle.shared_steps.proofs.Adding.{from_row, row-summed, zero-summed, sums-small, adding-long}
use Rattle.shared_line.proofs.class_sums.second_4.Statement.{statement}
use Rattle.shared_line.proofs.class_sums.second_4.Tie as tie

row-requires : tie.Need-row-requires
row-requires c κs = (omega arith, from_row 1 (omega arith) c.before.requires.0)

same_length : tie.Need-shape_of-a
same_length c =
    let c1 = c.before in
    adding-long c1.before.before.requires.0 c1.row.ensures.1

returns : tie.Need-returns
unfolding class_of
returns c =
    let c1 = c.before in
    (class-is tt (row-summed (zero-summed 1 c1.before.before.requires.1) c1.row.ensures.0), sums-small (omega arith) c1.row.ensures.1)

pub second_4_spec : {M : Type 1} → statement M
second_4_spec = tie.close (tie.spec row-requires same_length returns)
