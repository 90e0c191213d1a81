-- `class_sums::first_32` meets its contract. Assumes nothing. Made by crates/shared_line/make; do not edit.
use native.Mathlib.Omega.{arith}
use Rattle.shared_steps.specs.Folds.{class_of}
use Rattle.shared_steps.proofs.Classes.{class-is}
use Rattle.shared_steps.proofs.Adding.{from_row, row-summed, zero-summed, sums-small, adding-long}
use Rattle.shared_line.proofs.class_sums.first_32.Statement.{statement}
use Rattle.shared_line.proofs.class_sums.first_32.Tie as tie

row-requires : tie.Need-row-requires
row-requires c κs = (omega arith, from_row 0 (omega arith) c.before.requires.0)

row-requires-2 : tie.Need-row-requires-2
row-requires-2 c κs = (omega arith, from_row 1 (omega arith) c.before.before.row.ensures.1)

row-requires-3 : tie.Need-row-requires-3
row-requires-3 c κs = (omega arith, from_row 3 (omega arith) c.before.before.row-2.ensures.1)

row-requires-4 : tie.Need-row-requires-4
row-requires-4 c κs = (omega arith, from_row 4 (omega arith) c.before.before.row-3.ensures.1)

row-requires-5 : tie.Need-row-requires-5
row-requires-5 c κs = (omega arith, from_row 5 (omega arith) c.before.before.row-4.ensures.1)

row-requires-6 : tie.Need-row-requires-6
row-requires-6 c κs = (omega arith, from_row 8 (omega arith) c.before.before.row-5.ensures.1)

row-requires-7 : tie.Need-row-requires-7
row-requires-7 c κs = (omega arith, from_row 9 (omega arith) c.before.before.row-6.ensures.1)

row-requires-8 : tie.Need-row-requires-8
row-requires-8 c κs = (omega arith, from_row 10 (omega arith) c.before.before.row-7.ensures.1)

row-requires-9 : tie.Need-row-requires-9
row-requires-9 c κs = (omega arith, from_row 11 (omega arith) c.before.before.row-8.ensures.1)

row-requires-10 : tie.Need-row-requires-10
row-requires-10 c κs = (omega arith, from_row 13 (omega arith) c.before.before.row-9.ensures.1)

row-requires-11 : tie.Need-row-requires-11
row-requires-11 c κs = (omega arith, from_row 14 (omega arith) c.before.before.row-10.ensures.1)

row-requires-12 : tie.Need-row-requires-12
row-requires-12 c κs = (omega arith, from_row 15 (omega arith) c.before.before.row-11.ensures.1)

row-requires-13 : tie.Need-row-requires-13
row-requires-13 c κs = (omega arith, from_row 16 (omega arith) c.before.before.row-12.ensures.1)

row-requires-14 : tie.Need-row-requires-14
row-requires-14 c κs = (omega arith, from_row 18 (omega arith) c.before.before.row-13.ensures.1)

row-requires-15 : tie.Need-row-requires-15
row-requires-15 c κs = (omega arith, from_row 20 (omega arith) c.before.before.row-14.ensures.1)

row-requires-16 : tie.Need-row-requires-16
row-requires-16 c κs = (omega arith, from_row 21 (omega arith) c.before.before.row-15.ensures.1)

row-requires-17 : tie.Need-row-requires-17
row-requires-17 c κs = (omega arith, from_row 23 (omega arith) c.before.before.row-16.ensures.1)

row-requires-18 : tie.Need-row-requires-18
row-requires-18 c κs = (omega arith, from_row 24 (omega arith) c.before.before.row-17.ensures.1)

row-requires-19 : tie.Need-row-requires-19
row-requires-19 c κs = (omega arith, from_row 25 (omega arith) c.before.before.row-18.ensures.1)

row-requires-20 : tie.Need-row-requires-20
row-requires-20 c κs = (omega arith, from_row 26 (omega arith) c.before.before.row-19.ensures.1)

row-requires-21 : tie.Need-row-requires-21
row-requires-21 c κs = (omega arith, from_row 28 (omega arith) c.before.before.row-20.ensures.1)

row-requires-22 : tie.Need-row-requires-22
row-requires-22 c κs = (omega arith, from_row 29 (omega arith) c.before.before.row-21.ensures.1)

row-requires-23 : tie.Need-row-requires-23
row-requires-23 c κs = (omega arith, from_row 30 (omega arith) c.before.before.row-22.ensures.1)

row-requires-24 : tie.Need-row-requires-24
row-requires-24 c κs = (omega arith, from_row 31 (omega arith) c.before.before.row-23.ensures.1)

same_length : tie.Need-shape_of-a
same_length c =
    let c24 = c.before in
    let c23 = c24.before.before.before in
    let c22 = c23.before.before.before in
    let c21 = c22.before.before.before in
    let c20 = c21.before.before.before in
    let c19 = c20.before.before.before in
    let c18 = c19.before.before.before in
    let c17 = c18.before.before.before in
    let c16 = c17.before.before.before in
    let c15 = c16.before.before.before in
    let c14 = c15.before.before.before in
    let c13 = c14.before.before.before in
    let c12 = c13.before.before.before in
    let c11 = c12.before.before.before in
    let c10 = c11.before.before.before in
    let c9 = c10.before.before.before in
    let c8 = c9.before.before.before in
    let c7 = c8.before.before.before in
    let c6 = c7.before.before.before in
    let c5 = c6.before.before.before in
    let c4 = c5.before.before.before in
    let c3 = c4.before.before.before in
    let c2 = c3.before.before.before in
    let c1 = c2.before.before.before in
    adding-long c1.before.before.requires.0 c24.row-24.ensures.1

returns : tie.Need-returns
unfolding class_of
returns c =
    let c24 = c.before in
    let c23 = c24.before.before.before in
    let c22 = c23.before.before.before in
    let c21 = c22.before.before.before in
    let c20 = c21.before.before.before in
    let c19 = c20.before.before.before in
    let c18 = c19.before.before.before in
    let c17 = c18.before.before.before in
    let c16 = c17.before.before.before in
    let c15 = c16.before.before.before in
    let c14 = c15.before.before.before in
    let c13 = c14.before.before.before in
    let c12 = c13.before.before.before in
    let c11 = c12.before.before.before in
    let c10 = c11.before.before.before in
    let c9 = c10.before.before.before in
    let c8 = c9.before.before.before in
    let c7 = c8.before.before.before in
    let c6 = c7.before.before.before in
    let c5 = c6.before.before.before in
    let c4 = c5.before.before.before in
    let c3 = c4.before.before.before in
    let c2 = c3.before.before.before in
    let c1 = c2.before.before.before in
    (class-is tt (row-summed (row-summed (row-summed (row-summed (row-summed (row-summed (row-summed (row-summed (row-summed (row-summed (row-summed (row-summed (row-summed (row-summed (row-summed (row-summed (row-summed (row-summed (row-summed (row-summed (row-summed (row-summed (row-summed (row-summed (zero-summed 26 c1.before.before.requires.1) c1.row.ensures.0) c2.row-2.ensures.0) c3.row-3.ensures.0) c4.row-4.ensures.0) c5.row-5.ensures.0) c6.row-6.ensures.0) c7.row-7.ensures.0) c8.row-8.ensures.0) c9.row-9.ensures.0) c10.row-10.ensures.0) c11.row-11.ensures.0) c12.row-12.ensures.0) c13.row-13.ensures.0) c14.row-14.ensures.0) c15.row-15.ensures.0) c16.row-16.ensures.0) c17.row-17.ensures.0) c18.row-18.ensures.0) c19.row-19.ensures.0) c20.row-20.ensures.0) c21.row-21.ensures.0) c22.row-22.ensures.0) c23.row-23.ensures.0) c24.row-24.ensures.0), sums-small (omega arith) c24.row-24.ensures.1)

pub first_32_spec : {M : Type 1} → statement M
first_32_spec = tie.close (tie.spec row-requires row-requires-2 row-requires-3 row-requires-4 row-requires-5 row-requires-6 row-requires-7 row-requires-8 row-requires-9 row-requires-10 row-requires-11 row-requires-12 row-requires-13 row-requires-14 row-requires-15 row-requires-16 row-requires-17 row-requires-18 row-requires-19 row-requires-20 row-requires-21 row-requires-22 row-requires-23 row-requires-24 same_length returns)
