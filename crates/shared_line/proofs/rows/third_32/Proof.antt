-- `rows::third_32` meets its contract. Assumes nothing. Made by crates/shared_line/make; do not edit.
use native.Mathlib.Omega.{arith}
use mathlib.Core.Path.{◌∙◌}
use lib.Dec.{eqb}
use Rattle.shared_steps.specs.Folds.{class_of}
use Rattle.shared_steps.proofs.Writing.{put_one, and_then, by-test}
use Rattle.shared_line.proofs.rows.third_32.Statement.{statement}
use Rattle.shared_line.proofs.rows.third_32.Tie as tie

put-requires : tie.Need-put-requires
put-requires c κs = (omega arith, c.before.requires)

put-requires-2 : tie.Need-put-requires-2
put-requires-2 c κs = (omega arith, c.before.before.put.ensures.1)

same_length : tie.Need-shape_of-y
same_length c =
    let c2 = c.before in
    let c1 = c2.before.before.before in
    c2.put-2.ensures.0.long ∙ c1.put.ensures.0.long

returns : tie.Need-returns
unfolding class_of
returns c =
    let c2 = c.before in
    let c1 = c2.before.before.before in
    (by-test (λ i. eqb (class_of 5 13 i) 3) tt (and_then (put_one c1.put.ensures.0) (put_one c2.put-2.ensures.0)), c2.put-2.ensures.1)

pub third_32_spec : {M : Type 1} → statement M
third_32_spec = tie.close (tie.spec put-requires put-requires-2 same_length returns)
