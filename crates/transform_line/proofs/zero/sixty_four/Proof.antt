-- `sixty_four` meets its contract: the lines by as many pairs of the table as are read. Assumes nothing.
use borrow.Author.Rules.{rules}
use native.Mathlib.Omega.{arith}
use mathlib.Core.Path.{sym}
use Rattle.stage_weights.proofs.Rooms.{front}
use Rattle.transform_line.proofs.Runs.{asks, leaves, as_long, ran, kept_in, of-64}
use Rattle.transform_line.proofs.zero.sixty_four.Statement.{statement}
use Rattle.transform_line.proofs.zero.sixty_four.Tie as tie

put-64-requires : tie.Need-put_64-requires
put-64-requires c κs = search rules

slice-aggregate-front : tie.Need-slice_bounds-front-end
slice-aggregate-front c = sym c.before.put_64.ensures.0

slice-aggregate-front-2 : tie.Need-slice_bounds-front-end-then-live-le4
slice-aggregate-front-2 c = search rules

front-requires : tie.Need-front-requires
front-requires c κs = omega (arith, c.before.before.put_64.ensures.0)

slice-aggregate-lines : tie.Need-slice_bounds-lines-end
slice-aggregate-lines c = search rules

slice-aggregate-lines-2 : tie.Need-slice_bounds-lines-end-then-live-le4
slice-aggregate-lines-2 c = sym c.before.before.before.front.ensures.long

lines-requires : tie.Need-lines-requires
lines-requires c κs = let s = c.before.before.before.before.before.before.before.before.before.before.before in asks 0 64 s.ranges.half s.requires.given 2 (front (of-64 c.before.before.before.before.before.before.before.put_64.ensures.1) c.before.before.before.before.front.ensures 2 (omega arith) (omega arith)) (omega arith) (omega arith)

returns : tie.Need-returns-then-live-le4
returns c =
    let s = c.before.before.before.before.before.before.before.before.before.before.before.before.before in
    ran s.requires 4 (omega arith) (omega arith) (leaves 0 64 s.ranges.half s.requires.given 2 (front (of-64 c.before.before.before.before.before.before.before.before.before.put_64.ensures.1) c.before.before.before.before.before.before.front.ensures 2 (omega arith) (omega arith)) (omega arith) (omega arith) c.before.lines.ensures)

same_length : tie.Need-shape_of-out-then-live-le4
same_length c = let s = c.before.before.before.before.before.before.before.before.before.before.before.before.before in as_long s.requires.given _ (returns c)

put-64-requires-2 : tie.Need-put_64-requires-then-live-le8
put-64-requires-2 c κs = search rules

slice-aggregate-front-3 : tie.Need-slice_bounds-front-end-then-live-le8
slice-aggregate-front-3 c = sym c.before.put_64-then-live-le8.ensures.0

slice-aggregate-front-4 : tie.Need-slice_bounds-front-end-then-live-le8-2
slice-aggregate-front-4 c = search rules

front-requires-2 : tie.Need-front-requires-then-live-le8
front-requires-2 c κs = omega (arith, c.before.before.put_64-then-live-le8.ensures.0)

slice-aggregate-lines-3 : tie.Need-slice_bounds-lines-end-then-live-le8
slice-aggregate-lines-3 c = search rules

slice-aggregate-lines-4 : tie.Need-slice_bounds-lines-end-then-live-le8-2
slice-aggregate-lines-4 c = sym c.before.before.before.front-then-live-le8.ensures.long

lines-requires-2 : tie.Need-lines-requires-then-live-le8
lines-requires-2 c κs = let s = c.before.before.before.before.before.before.before.before.before.before.before.before in asks 0 64 s.ranges.half s.requires.given 4 (front (of-64 c.before.before.before.before.before.before.before.put_64-then-live-le8.ensures.1) c.before.before.before.before.front-then-live-le8.ensures 4 (omega arith) (omega arith)) (omega arith) (omega arith)

returns-2 : tie.Need-returns-then-live-le8
returns-2 c =
    let s = c.before.before.before.before.before.before.before.before.before.before.before.before.before.before in
    ran s.requires 8 (omega arith) (omega arith) (leaves 0 64 s.ranges.half s.requires.given 4 (front (of-64 c.before.before.before.before.before.before.before.before.before.put_64-then-live-le8.ensures.1) c.before.before.before.before.before.before.front-then-live-le8.ensures 4 (omega arith) (omega arith)) (omega arith) (omega arith) c.before.lines-then-live-le8.ensures)

same-length-2 : tie.Need-shape_of-out-then-live-le8
same-length-2 c = let s = c.before.before.before.before.before.before.before.before.before.before.before.before.before.before in as_long s.requires.given _ (returns-2 c)

put-64-requires-3 : tie.Need-put_64-requires-then-live-le16
put-64-requires-3 c κs = search rules

slice-aggregate-front-5 : tie.Need-slice_bounds-front-end-then-live-le16
slice-aggregate-front-5 c = sym c.before.put_64-then-live-le16.ensures.0

slice-aggregate-front-6 : tie.Need-slice_bounds-front-end-then-live-le16-2
slice-aggregate-front-6 c = search rules

front-requires-3 : tie.Need-front-requires-then-live-le16
front-requires-3 c κs = omega (arith, c.before.before.put_64-then-live-le16.ensures.0)

slice-aggregate-lines-5 : tie.Need-slice_bounds-lines-end-then-live-le16
slice-aggregate-lines-5 c = search rules

slice-aggregate-lines-6 : tie.Need-slice_bounds-lines-end-then-live-le16-2
slice-aggregate-lines-6 c = sym c.before.before.before.front-then-live-le16.ensures.long

lines-requires-3 : tie.Need-lines-requires-then-live-le16
lines-requires-3 c κs = let s = c.before.before.before.before.before.before.before.before.before.before.before.before.before in asks 0 64 s.ranges.half s.requires.given 8 (front (of-64 c.before.before.before.before.before.before.before.put_64-then-live-le16.ensures.1) c.before.before.before.before.front-then-live-le16.ensures 8 (omega arith) (omega arith)) (omega arith) (omega arith)

returns-3 : tie.Need-returns-then-live-le16
returns-3 c =
    let s = c.before.before.before.before.before.before.before.before.before.before.before.before.before.before.before in
    ran s.requires 16 (omega arith) (omega arith) (leaves 0 64 s.ranges.half s.requires.given 8 (front (of-64 c.before.before.before.before.before.before.before.before.before.put_64-then-live-le16.ensures.1) c.before.before.before.before.before.before.front-then-live-le16.ensures 8 (omega arith) (omega arith)) (omega arith) (omega arith) c.before.lines-then-live-le16.ensures)

same-length-3 : tie.Need-shape_of-out-then-live-le16
same-length-3 c = let s = c.before.before.before.before.before.before.before.before.before.before.before.before.before.before.before in as_long s.requires.given _ (returns-3 c)

put-64-requires-4 : tie.Need-put_64-requires-else-live-le16
put-64-requires-4 c κs = search rules

slice-aggregate-lines-7 : tie.Need-slice_bounds-lines-end-else-live-le16
slice-aggregate-lines-7 c = search rules

slice-aggregate-lines-8 : tie.Need-slice_bounds-lines-end-else-live-le16-2
slice-aggregate-lines-8 c = sym c.before.before.put_64-else-live-le16.ensures.0

lines-requires-4 : tie.Need-lines-requires-else-live-le16
lines-requires-4 c κs = let s = c.before.before.before.before.before.before.before.before.before in asks 0 64 s.ranges.half s.requires.given 16 (of-64 c.before.before.before.put_64-else-live-le16.ensures.1) (omega arith) (omega arith)

returns-4 : tie.Need-returns-else-live-le16
returns-4 c =
    let s = c.before.before.before.before.before.before.before.before.before.before.before in
    ran s.requires 32 (omega (arith, kept_in 0 64 s.args.live s.requires.kept)) (omega arith) (leaves 0 64 s.ranges.half s.requires.given 16 (of-64 c.before.before.before.before.before.put_64-else-live-le16.ensures.1) (omega arith) (omega arith) c.before.lines-else-live-le16.ensures)

same-length-4 : tie.Need-shape_of-out-else-live-le16
same-length-4 c = let s = c.before.before.before.before.before.before.before.before.before.before.before in as_long s.requires.given _ (returns-4 c)

pub sixty_four_spec : {M : Type 1} → statement M
sixty_four_spec =
    tie.close
    (tie.spec
    put-64-requires
    slice-aggregate-front
    slice-aggregate-front-2
    front-requires
    slice-aggregate-lines
    slice-aggregate-lines-2
    lines-requires
    put-64-requires-2
    slice-aggregate-front-3
    slice-aggregate-front-4
    front-requires-2
    slice-aggregate-lines-3
    slice-aggregate-lines-4
    lines-requires-2
    put-64-requires-3
    slice-aggregate-front-5
    slice-aggregate-front-6
    front-requires-3
    slice-aggregate-lines-5
    slice-aggregate-lines-6
    lines-requires-3
    put-64-requires-4
    slice-aggregate-lines-7
    slice-aggregate-lines-8
    lines-requires-4
    same_length
    returns
    same-length-2
    returns-2
    same-length-3
    returns-3
    same-length-4
    returns-4)
