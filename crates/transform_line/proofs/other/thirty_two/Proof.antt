-- `thirty_two` meets its contract: the lines by the first pairs of the table. Assumes nothing.
use borrow.Author.Rules.{rules}
use native.Mathlib.Omega.{arith}
use mathlib.Core.Path.{sym}
use Rattle.stage_weights.proofs.Rooms.{front}
use Rattle.transform_line.proofs.Runs.{asks, leaves, as_long}
use Rattle.transform_line.proofs.other.thirty_two.Statement.{statement}
use Rattle.transform_line.proofs.other.thirty_two.Tie as tie

put-32-requires : tie.Need-put_32-requires
put-32-requires c κs = search rules

slice-aggregate-front : tie.Need-slice_bounds-front-end
slice-aggregate-front c = sym c.before.put_32.ensures.0

slice-aggregate-front-2 : tie.Need-slice_bounds-front-end-2
slice-aggregate-front-2 c = search rules

front-requires : tie.Need-front-requires
front-requires c κs = omega (arith, c.before.before.put_32.ensures.0)

slice-aggregate-lines : tie.Need-slice_bounds-lines-end
slice-aggregate-lines c = search rules

slice-aggregate-lines-2 : tie.Need-slice_bounds-lines-end-2
slice-aggregate-lines-2 c = sym c.before.before.before.front.ensures.long

lines-requires : tie.Need-lines-requires
lines-requires c κs = let s = c.before.before.before.before.before.before.before.before.before.before in asks s.args.kind 32 s.ranges.half s.requires 8 (front c.before.before.before.before.before.before.before.put_32.ensures.1 c.before.before.before.before.front.ensures 8 (omega arith) (omega arith)) (omega arith) (omega arith)

returns : tie.Need-returns
returns c =
    let s = c.before.before.before.before.before.before.before.before.before.before.before.before in
    leaves s.args.kind 32 s.ranges.half s.requires 8 (front c.before.before.before.before.before.before.before.before.before.put_32.ensures.1 c.before.before.before.before.before.before.front.ensures 8 (omega arith) (omega arith)) (omega arith) (omega arith) c.before.lines.ensures

same_length : tie.Need-shape_of-out
same_length c = let s = c.before.before.before.before.before.before.before.before.before.before.before.before in as_long s.requires _ (returns c)

pub thirty_two_spec : {M : Type 1} → statement M
thirty_two_spec =
    tie.close
    (tie.spec
    put-32-requires
    slice-aggregate-front
    slice-aggregate-front-2
    front-requires
    slice-aggregate-lines
    slice-aggregate-lines-2
    lines-requires
    same_length
    returns)
