-- `rows::third_16` meets its contract. Assumes nothing. Made by crates/shared_line/make; do not edit.
use native.Mathlib.Omega.{arith}
use lib.Dec.{eqb}
use Rattle.shared_steps.specs.Folds.{class_of}
use Rattle.shared_steps.proofs.Writing.{put_one, by-test}
use Rattle.shared_line.proofs.rows.third_16.Statement.{statement}
use Rattle.shared_line.proofs.rows.third_16.Tie as tie

put-requires : tie.Need-put-requires
put-requires c κs = (omega arith, c.before.requires)

same_length : tie.Need-shape_of-y
same_length c =
    let c1 = c.before in
    c1.put.ensures.0.long

returns : tie.Need-returns
unfolding class_of
returns c =
    let c1 = c.before in
    (by-test (λ i. eqb (class_of 3 11 i) 3) tt (put_one c1.put.ensures.0), c1.put.ensures.1)

pub third_16_spec : {M : Type 1} → statement M
third_16_spec = tie.close (tie.spec put-requires same_length returns)
