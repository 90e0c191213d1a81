-- `row_16` meets its contract: four values, one after another or every fourth. Assumes nothing.
use native.Mathlib.Omega.{arith}
use Rattle.lfnst.proofs.Placing.{wrote_as, straight-16, turned-16}
use Rattle.lfnst.proofs.places.row_16.Statement.{statement}
use Rattle.lfnst.proofs.places.row_16.Tie as tie

four-requires : tie.Need-four-requires
four-requires c κs = let s = c.before.before in (omega (arith, s.requires.0), s.requires.1)

mul-four : tie.Need-overflow_mul-y
mul-four c = omega (arith, c.before.requires.0)

four-requires-2 : tie.Need-four-requires-else-transposed
four-requires-2 c κs = let s = c.before.before in (omega (arith, s.requires.0), s.requires.1)

same_length : tie.Need-shape_of-numbers-then-transposed
same_length c = c.before.four.ensures.long

returns : tie.Need-returns-then-transposed
returns c =
    let T = c.before.before.before in
    let s = T.before in
    rw T.if-transposed.true (wrote_as c.before.four.ensures (turned-16 s.args.v.now s.args.y s.requires.0))

same-length-2 : tie.Need-shape_of-numbers-else-transposed
same-length-2 c = c.before.four-else-transposed.ensures.long

returns-2 : tie.Need-returns-else-transposed
returns-2 c =
    let T = c.before.before.before in
    let s = T.before in
    rw T.if-transposed.false (wrote_as c.before.four-else-transposed.ensures (straight-16 s.args.v.now s.args.y s.requires.0))

pub row_16_spec : {M : Type 1} → statement M
row_16_spec =
    tie.close
    (tie.spec four-requires mul-four four-requires-2 same_length returns same-length-2 returns-2)
