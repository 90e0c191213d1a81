-- `clip_all` meets its contract. Assumes nothing.
use borrow.Author.Rules.{rules}
use native.Mathlib.Omega.{arith}
use mathlib.Core.Path.{refl, sym}
use Rattle.clipping.proofs.Clipped.{whole, as_many}
use Rattle.clipping.proofs.clip_all.Statement.{statement}
use Rattle.clipping.proofs.clip_all.Tie as tie

mul-clip-row : tie.Need-overflow_mul-rows
mul-clip-row c = omega (arith, c.before.requires.1.0)

clip-row-requires : tie.Need-clip_row-requires
clip-row-requires c κs = let s = c.before.before in (omega (arith, s.requires.1.0), omega (arith, s.requires.1.1.0))

same_length : tie.Need-shape_of-room-then-columns-w
same_length c = search rules

returns : tie.Need-returns-then-columns-w
returns c =
    let R = c.before in
    let s = R.before.before.before in
    let a = s.args in
    let e = R.before.before.if-columns-w.true in
    (R.clip_row.ensures.long, as_many (sym e) refl (whole a.c.now a.room.now _ a.w a.rows s.requires.1.1.1 R.clip_row.ensures))

clip-rows-requires : tie.Need-clip_rows-requires
clip-rows-requires c κs = c.before.before.requires

same-length-2 : tie.Need-shape_of-room
same-length-2 c = search rules

returns-2 : tie.Need-returns
returns-2 c = c.before.clip_rows.ensures

pub clip_all_spec : {M : Type 1} → statement M
clip_all_spec = tie.close (tie.spec mul-clip-row clip-row-requires same_length returns clip-rows-requires same-length-2 returns-2)
