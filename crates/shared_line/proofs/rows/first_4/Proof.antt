-- `rows::first_4` meets its contract. Assumes nothing. Made by crates/shared_line/make; do not edit.
use native.Mathlib.Omega.{arith}
use mathlib.Core.Path.{◌∙◌}
use lib.Dec.{eqb}
use Rattle.shared_steps.specs.Folds.{class_of}
use Rattle.shared_steps.proofs.Writing.{put_one, and_then, by-test}
use Rattle.shared_line.proofs.rows.first_4.Statement.{statement}
use Rattle.shared_line.proofs.rows.first_4.Tie as tie

put-requires : tie.Need-put-requires
put-requires c κs = (omega arith, c.before.requires)

put-requires-2 : tie.Need-put-requires-2
put-requires-2 c κs = (omega arith, c.before.before.put.ensures.1)

put-requires-3 : tie.Need-put-requires-3
put-requires-3 c κs = (omega arith, c.before.before.put-2.ensures.1)

same_length : tie.Need-shape_of-y
same_length c =
    let c3 = c.before in
    let c2 = c3.before.before.before in
    let c1 = c2.before.before.before in
    c3.put-3.ensures.0.long ∙ c2.put-2.ensures.0.long ∙ c1.put.ensures.0.long

returns : tie.Need-returns
unfolding class_of
returns c =
    let c3 = c.before in
    let c2 = c3.before.before.before in
    let c1 = c2.before.before.before in
    (by-test (λ i. eqb (class_of 3 3 i) 1) tt (and_then (and_then (put_one c1.put.ensures.0) (put_one c2.put-2.ensures.0)) (put_one c3.put-3.ensures.0)), c3.put-3.ensures.1)

pub first_4_spec : {M : Type 1} → statement M
first_4_spec = tie.close (tie.spec put-requires put-requires-2 put-requires-3 same_length returns)
