-- `narrow` meets its contract: whole rows are one long row. Assumes nothing.
use borrow.Author.Rules.{rules}
use native.Mathlib.Omega.{arith}
use Rattle.narrowing.proofs.Reading.{given-whole, narrow-whole}
use Rattle.narrowing.proofs.narrow.Statement.{statement}
use Rattle.narrowing.proofs.narrow.Tie as tie

mul-all : tie.Need-overflow_mul-all
mul-all c = omega (arith, c.before.requires.there)

narrow-rows-requires : tie.Need-narrow_rows-requires
narrow-rows-requires c κs = given-whole c.before.if-columns-w.true c.before.before.requires

same_length : tie.Need-shape_of-room-then-columns-w
same_length c = search rules

returns : tie.Need-returns-then-columns-w
returns c =
    let s = c.before.before.before.before in
    narrow-whole s.args.w s.args.columns s.args.rows s.args.broad c.before.before.before.if-columns-w.true s.requires.few s.requires.within c.before.narrow_rows.ensures

narrow-rows-requires-2 : tie.Need-narrow_rows-requires-2
narrow-rows-requires-2 c κs = search rules

same-length-2 : tie.Need-shape_of-room
same-length-2 c = search rules

returns-2 : tie.Need-returns
returns-2 c = search rules

pub narrow_spec : {M : Type 1} → statement M
narrow_spec = tie.close (tie.spec mul-all narrow-rows-requires same_length returns narrow-rows-requires-2 same-length-2 returns-2)
