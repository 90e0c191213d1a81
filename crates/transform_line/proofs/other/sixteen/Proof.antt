-- `sixteen` meets its contract: the lines by the whole table. Assumes nothing.
use borrow.Author.Rules.{rules}
use native.Mathlib.Omega.{arith}
use Rattle.transform_line.proofs.Runs.{asks, leaves, as_long}
use Rattle.transform_line.proofs.other.sixteen.Statement.{statement}
use Rattle.transform_line.proofs.other.sixteen.Tie as tie

zipped-16-requires : tie.Need-zipped_16-t-requires
zipped-16-requires c κs = search rules

slice-aggregate-lines : tie.Need-slice_bounds-lines-end
slice-aggregate-lines c = search rules

slice-aggregate-lines-2 : tie.Need-slice_bounds-lines-end-2
slice-aggregate-lines-2 c = search rules

lines-requires : tie.Need-lines-requires
lines-requires c κs = let s = c.before.before.before.before.before in asks s.args.kind 16 s.ranges.half s.requires 8 c.before.before.before.zipped_16-t.ensures (omega arith) (omega arith)

returns : tie.Need-returns
returns c =
    let s = c.before.before.before.before.before.before.before in
    leaves s.args.kind 16 s.ranges.half s.requires 8 c.before.before.before.before.before.zipped_16-t.ensures (omega arith) (omega arith) c.before.lines.ensures

same_length : tie.Need-shape_of-out
same_length c = let s = c.before.before.before.before.before.before.before in as_long s.requires _ (returns c)

pub sixteen_spec : {M : Type 1} → statement M
sixteen_spec =
    tie.close
    (tie.spec
    zipped-16-requires
    slice-aggregate-lines
    slice-aggregate-lines-2
    lines-requires
    same_length
    returns)
