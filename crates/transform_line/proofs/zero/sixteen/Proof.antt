-- `sixteen` meets its contract: the lines by as many pairs of the table as are read. Assumes nothing.
use borrow.Author.Rules.{rules}
use native.Mathlib.Omega.{arith}
use mathlib.Core.Path.{sym}
use Rattle.stage_weights.proofs.Rooms.{front}
use Rattle.transform_line.proofs.Runs.{asks, leaves, as_long, ran, kept_in}
use Rattle.transform_line.proofs.zero.sixteen.Statement.{statement}
use Rattle.transform_line.proofs.zero.sixteen.Tie as tie

zipped-16-requires : tie.Need-zipped_16-requires
zipped-16-requires c κs = search rules

slice-aggregate-front : tie.Need-slice_bounds-front-end
slice-aggregate-front c = search rules

slice-aggregate-front-2 : tie.Need-slice_bounds-front-end-then-live-le4
slice-aggregate-front-2 c = search rules

front-requires : tie.Need-front-requires
front-requires c κs = search rules

slice-aggregate-lines : tie.Need-slice_bounds-lines-end
slice-aggregate-lines c = search rules

slice-aggregate-lines-2 : tie.Need-slice_bounds-lines-end-then-live-le4
slice-aggregate-lines-2 c = sym c.before.before.before.front.ensures.long

lines-requires : tie.Need-lines-requires
lines-requires c κs = let s = c.before.before.before.before.before.before.before.before.before.before in asks 0 16 s.ranges.half s.requires.given 2 (front c.before.before.before.before.before.before.before.zipped_16.ensures c.before.before.before.before.front.ensures 2 (omega arith) (omega arith)) (omega arith) (omega arith)

returns : tie.Need-returns-then-live-le4
returns c =
    let s = c.before.before.before.before.before.before.before.before.before.before.before.before in
    ran s.requires 4 (omega arith) (omega arith) (leaves 0 16 s.ranges.half s.requires.given 2 (front c.before.before.before.before.before.before.before.before.before.zipped_16.ensures c.before.before.before.before.before.before.front.ensures 2 (omega arith) (omega arith)) (omega arith) (omega arith) c.before.lines.ensures)

same_length : tie.Need-shape_of-out-then-live-le4
same_length c = let s = c.before.before.before.before.before.before.before.before.before.before.before.before in as_long s.requires.given _ (returns c)

zipped-16-requires-2 : tie.Need-zipped_16-requires-then-live-le8
zipped-16-requires-2 c κs = search rules

slice-aggregate-front-3 : tie.Need-slice_bounds-front-end-then-live-le8
slice-aggregate-front-3 c = search rules

slice-aggregate-front-4 : tie.Need-slice_bounds-front-end-then-live-le8-2
slice-aggregate-front-4 c = search rules

front-requires-2 : tie.Need-front-requires-then-live-le8
front-requires-2 c κs = search rules

slice-aggregate-lines-3 : tie.Need-slice_bounds-lines-end-then-live-le8
slice-aggregate-lines-3 c = search rules

slice-aggregate-lines-4 : tie.Need-slice_bounds-lines-end-then-live-le8-2
slice-aggregate-lines-4 c = sym c.before.before.before.front-then-live-le8.ensures.long

lines-requires-2 : tie.Need-lines-requires-then-live-le8
lines-requires-2 c κs = let s = c.before.before.before.before.before.before.before.before.before.before.before in asks 0 16 s.ranges.half s.requires.given 4 (front c.before.before.before.before.before.before.before.zipped_16-then-live-le8.ensures c.before.before.before.before.front-then-live-le8.ensures 4 (omega arith) (omega arith)) (omega arith) (omega arith)

returns-2 : tie.Need-returns-then-live-le8
returns-2 c =
    let s = c.before.before.before.before.before.before.before.before.before.before.before.before.before in
    ran s.requires 8 (omega arith) (omega arith) (leaves 0 16 s.ranges.half s.requires.given 4 (front c.before.before.before.before.before.before.before.before.before.zipped_16-then-live-le8.ensures c.before.before.before.before.before.before.front-then-live-le8.ensures 4 (omega arith) (omega arith)) (omega arith) (omega arith) c.before.lines-then-live-le8.ensures)

same-length-2 : tie.Need-shape_of-out-then-live-le8
same-length-2 c = let s = c.before.before.before.before.before.before.before.before.before.before.before.before.before in as_long s.requires.given _ (returns-2 c)

zipped-16-requires-3 : tie.Need-zipped_16-t-requires
zipped-16-requires-3 c κs = search rules

slice-aggregate-lines-5 : tie.Need-slice_bounds-lines-end-else-live-le8
slice-aggregate-lines-5 c = search rules

slice-aggregate-lines-6 : tie.Need-slice_bounds-lines-end-else-live-le8-2
slice-aggregate-lines-6 c = search rules

lines-requires-3 : tie.Need-lines-requires-else-live-le8
lines-requires-3 c κs = let s = c.before.before.before.before.before.before.before in asks 0 16 s.ranges.half s.requires.given 8 c.before.before.before.zipped_16-t.ensures (omega arith) (omega arith)

returns-3 : tie.Need-returns-else-live-le8
returns-3 c =
    let s = c.before.before.before.before.before.before.before.before.before in
    ran s.requires 16 (omega (arith, kept_in 0 16 s.args.live s.requires.kept)) (omega arith) (leaves 0 16 s.ranges.half s.requires.given 8 c.before.before.before.before.before.zipped_16-t.ensures (omega arith) (omega arith) c.before.lines-else-live-le8.ensures)

same-length-3 : tie.Need-shape_of-out-else-live-le8
same-length-3 c = let s = c.before.before.before.before.before.before.before.before.before in as_long s.requires.given _ (returns-3 c)

pub sixteen_spec : {M : Type 1} → statement M
sixteen_spec =
    tie.close
    (tie.spec
    zipped-16-requires
    slice-aggregate-front
    slice-aggregate-front-2
    front-requires
    slice-aggregate-lines
    slice-aggregate-lines-2
    lines-requires
    zipped-16-requires-2
    slice-aggregate-front-3
    slice-aggregate-front-4
    front-requires-2
    slice-aggregate-lines-3
    slice-aggregate-lines-4
    lines-requires-2
    zipped-16-requires-3
    slice-aggregate-lines-5
    slice-aggregate-lines-6
    lines-requires-3
    same_length
    returns
    same-length-2
    returns-2
    same-length-3
    returns-3)
