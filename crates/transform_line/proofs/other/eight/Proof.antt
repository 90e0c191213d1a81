-- `eight` meets its contract: the lines by the whole table. Assumes nothing.
use borrow.Author.Rules.{rules}
use native.Mathlib.Omega.{arith}
use Rattle.transform_line.proofs.Runs.{asks, leaves, as_long}
use Rattle.transform_line.proofs.other.eight.Statement.{statement}
use Rattle.transform_line.proofs.other.eight.Tie as tie

zipped-8-requires : tie.Need-zipped_8-t-requires
zipped-8-requires c κs = search rules

slice-aggregate-lines : tie.Need-slice_bounds-lines-end
slice-aggregate-lines c = search rules

slice-aggregate-lines-2 : tie.Need-slice_bounds-lines-end-2
slice-aggregate-lines-2 c = search rules

lines-requires : tie.Need-lines-requires
lines-requires c κs = let s = c.before.before.before.before.before in asks s.args.kind 8 s.ranges.half s.requires 4 c.before.before.before.zipped_8-t.ensures (omega arith) (omega arith)

returns : tie.Need-returns
returns c =
    let s = c.before.before.before.before.before.before.before in
    leaves s.args.kind 8 s.ranges.half s.requires 4 c.before.before.before.before.before.zipped_8-t.ensures (omega arith) (omega arith) c.before.lines.ensures

same_length : tie.Need-shape_of-out
same_length c = let s = c.before.before.before.before.before.before.before in as_long s.requires _ (returns c)

pub eight_spec : {M : Type 1} → statement M
eight_spec =
    tie.close
    (tie.spec
    zipped-8-requires
    slice-aggregate-lines
    slice-aggregate-lines-2
    lines-requires
    same_length
    returns)
