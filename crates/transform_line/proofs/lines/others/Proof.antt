-- `others` meets its contract: each size by its function. Assumes nothing.
use borrow.Author.Rules.{rules}
use native.Mathlib.Omega.{arith}
use mathlib.Core.Path.{refl}
use Rattle.transform_line.proofs.Runs.{run_at, came, as_long, kept-few, is_32}
use Rattle.transform_line.proofs.lines.others.Statement.{statement}
use Rattle.transform_line.proofs.lines.others.Tie as tie

four-requires : tie.Need-four-requires
four-requires c κs = let s = c.before.before in (run_at s.ranges.half s.requires.0 4 s.args.count c.before.if-size-eq4.true refl).given

returns : tie.Need-returns-then-size-eq4
returns c =
    let s = c.before.before.before.before in
    came s.ranges.half s.requires.0 4 s.args.count c.before.before.before.if-size-eq4.true refl 4 (omega (arith, kept-few s.args.kind s.args.size s.args.live s.requires.1 s.requires.0.kept, c.before.before.before.if-size-eq4.true)) (omega (arith, c.before.before.before.if-size-eq4.true)) c.before.four.ensures

same_length : tie.Need-shape_of-out-then-size-eq4
same_length c = let s = c.before.before.before.before in as_long s.requires.0.given _ (returns c)

eight-requires : tie.Need-eight-requires
eight-requires c κs = let s = c.before.before.before in (run_at s.ranges.half s.requires.0 8 s.args.count c.before.if-size-eq8.true refl).given

returns-2 : tie.Need-returns-then-size-eq8
returns-2 c =
    let s = c.before.before.before.before.before in
    came s.ranges.half s.requires.0 8 s.args.count c.before.before.before.if-size-eq8.true refl 8 (omega (arith, kept-few s.args.kind s.args.size s.args.live s.requires.1 s.requires.0.kept, c.before.before.before.if-size-eq8.true)) (omega (arith, c.before.before.before.if-size-eq8.true)) c.before.eight.ensures

same-length-2 : tie.Need-shape_of-out-then-size-eq8
same-length-2 c = let s = c.before.before.before.before.before in as_long s.requires.0.given _ (returns-2 c)

sixteen-requires : tie.Need-sixteen-requires
sixteen-requires c κs = let s = c.before.before.before.before in (run_at s.ranges.half s.requires.0 16 s.args.count c.before.if-size-eq16.true refl).given

returns-3 : tie.Need-returns-then-size-eq16
returns-3 c =
    let s = c.before.before.before.before.before.before in
    came s.ranges.half s.requires.0 16 s.args.count c.before.before.before.if-size-eq16.true refl 16 (omega (arith, kept-few s.args.kind s.args.size s.args.live s.requires.1 s.requires.0.kept, c.before.before.before.if-size-eq16.true)) (omega (arith, c.before.before.before.if-size-eq16.true)) c.before.sixteen.ensures

same-length-3 : tie.Need-shape_of-out-then-size-eq16
same-length-3 c = let s = c.before.before.before.before.before.before in as_long s.requires.0.given _ (returns-3 c)

thirty-two-requires : tie.Need-thirty_two-requires
thirty-two-requires c κs = let s = c.before.before.before.before in (run_at s.ranges.half s.requires.0 32 s.args.count (is_32 s.args.kind s.args.size s.requires.0.line s.requires.1 c.before.before.before.if-size-eq4.false c.before.before.if-size-eq8.false c.before.if-size-eq16.false) refl).given

returns-4 : tie.Need-returns-else-size-eq16
returns-4 c =
    let s = c.before.before.before.before.before.before in
    came s.ranges.half s.requires.0 32 s.args.count (is_32 s.args.kind s.args.size s.requires.0.line s.requires.1 c.before.before.before.before.before.if-size-eq4.false c.before.before.before.before.if-size-eq8.false c.before.before.before.if-size-eq16.false) refl 16 (omega (arith, kept-few s.args.kind s.args.size s.args.live s.requires.1 s.requires.0.kept, (is_32 s.args.kind s.args.size s.requires.0.line s.requires.1 c.before.before.before.before.before.if-size-eq4.false c.before.before.before.before.if-size-eq8.false c.before.before.before.if-size-eq16.false))) (omega (arith, (is_32 s.args.kind s.args.size s.requires.0.line s.requires.1 c.before.before.before.before.before.if-size-eq4.false c.before.before.before.before.if-size-eq8.false c.before.before.before.if-size-eq16.false))) c.before.thirty_two.ensures

same-length-4 : tie.Need-shape_of-out-else-size-eq16
same-length-4 c = let s = c.before.before.before.before.before.before in as_long s.requires.0.given _ (returns-4 c)

pub others_spec : {M : Type 1} → statement M
others_spec =
    tie.close
    (tie.spec
    four-requires
    eight-requires
    sixteen-requires
    thirty-two-requires
    same_length
    returns
    same-length-2
    returns-2
    same-length-3
    returns-3
    same-length-4
    returns-4)
