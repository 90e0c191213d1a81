-- `zeros` meets its contract: each size by its function. Assumes nothing.
use borrow.Author.Rules.{rules}
use native.Mathlib.Omega.{arith}
use mathlib.Core.Path.{refl}
use Rattle.transform_line.proofs.Runs.{run_at, came, came-live, as_long, kept_in, is_64}
use Rattle.transform_line.proofs.lines.zeros.Statement.{statement}
use Rattle.transform_line.proofs.lines.zeros.Tie as tie

four-requires : tie.Need-four-requires
four-requires c κs = let s = c.before.before in (run_at s.ranges.half s.requires 4 s.args.count c.before.if-size-eq4.true refl).given

returns : tie.Need-returns-then-size-eq4
returns c = let s = c.before.before.before.before in came s.ranges.half s.requires 4 s.args.count c.before.before.before.if-size-eq4.true refl 4 (omega (arith, kept_in 0 s.args.size s.args.live s.requires.kept, c.before.before.before.if-size-eq4.true)) (omega (arith, c.before.before.before.if-size-eq4.true)) c.before.four.ensures

same_length : tie.Need-shape_of-out-then-size-eq4
same_length c = let s = c.before.before.before.before in as_long s.requires.given _ (returns c)

eight-requires : tie.Need-eight-requires
eight-requires c κs = let s = c.before.before.before in (run_at s.ranges.half s.requires 8 s.args.count c.before.if-size-eq8.true refl).given

returns-2 : tie.Need-returns-then-size-eq8
returns-2 c = let s = c.before.before.before.before.before in came s.ranges.half s.requires 8 s.args.count c.before.before.before.if-size-eq8.true refl 8 (omega (arith, kept_in 0 s.args.size s.args.live s.requires.kept, c.before.before.before.if-size-eq8.true)) (omega (arith, c.before.before.before.if-size-eq8.true)) c.before.eight.ensures

same-length-2 : tie.Need-shape_of-out-then-size-eq8
same-length-2 c = let s = c.before.before.before.before.before in as_long s.requires.given _ (returns-2 c)

sixteen-requires : tie.Need-sixteen-requires
sixteen-requires c κs = let s = c.before.before.before.before.before in run_at s.ranges.half s.requires 16 1 c.before.before.if-size-eq16.true c.before.if-count-eq1.true

returns-3 : tie.Need-returns-then-count-eq1
returns-3 c = let s = c.before.before.before.before.before.before.before in came-live s.ranges.half s.requires 16 1 c.before.before.before.before.if-size-eq16.true c.before.before.before.if-count-eq1.true c.before.sixteen.ensures

same-length-3 : tie.Need-shape_of-out-then-count-eq1
same-length-3 c = let s = c.before.before.before.before.before.before.before in as_long s.requires.given _ (returns-3 c)

sixteen-requires-2 : tie.Need-sixteen-requires-else-count-eq1
sixteen-requires-2 c κs = let s = c.before.before.before.before.before in run_at s.ranges.half s.requires 16 s.args.count c.before.before.if-size-eq16.true refl

returns-4 : tie.Need-returns-else-count-eq1
returns-4 c = let s = c.before.before.before.before.before.before.before in came-live s.ranges.half s.requires 16 s.args.count c.before.before.before.before.if-size-eq16.true refl c.before.sixteen-else-count-eq1.ensures

same-length-4 : tie.Need-shape_of-out-else-count-eq1
same-length-4 c = let s = c.before.before.before.before.before.before.before in as_long s.requires.given _ (returns-4 c)

thirty-two-requires : tie.Need-thirty_two-requires
thirty-two-requires c κs = let s = c.before.before.before.before.before.before in run_at s.ranges.half s.requires 32 1 c.before.before.if-size-eq32.true c.before.if-count-eq1-2.true

returns-5 : tie.Need-returns-then-count-eq1-2
returns-5 c = let s = c.before.before.before.before.before.before.before.before in came-live s.ranges.half s.requires 32 1 c.before.before.before.before.if-size-eq32.true c.before.before.before.if-count-eq1-2.true c.before.thirty_two.ensures

same-length-5 : tie.Need-shape_of-out-then-count-eq1-2
same-length-5 c = let s = c.before.before.before.before.before.before.before.before in as_long s.requires.given _ (returns-5 c)

thirty-two-requires-2 : tie.Need-thirty_two-requires-else-count-eq1-2
thirty-two-requires-2 c κs = let s = c.before.before.before.before.before.before in run_at s.ranges.half s.requires 32 s.args.count c.before.before.if-size-eq32.true refl

returns-6 : tie.Need-returns-else-count-eq1-2
returns-6 c = let s = c.before.before.before.before.before.before.before.before in came-live s.ranges.half s.requires 32 s.args.count c.before.before.before.before.if-size-eq32.true refl c.before.thirty_two-else-count-eq1-2.ensures

same-length-6 : tie.Need-shape_of-out-else-count-eq1-2
same-length-6 c = let s = c.before.before.before.before.before.before.before.before in as_long s.requires.given _ (returns-6 c)

sixty-four-requires : tie.Need-sixty_four-requires
sixty-four-requires c κs = let s = c.before.before.before.before.before.before in run_at s.ranges.half s.requires 64 1 (is_64 s.args.size s.requires.line s.requires.more c.before.before.before.before.before.if-size-eq4.false c.before.before.before.before.if-size-eq8.false c.before.before.before.if-size-eq16.false c.before.before.if-size-eq32.false) c.before.if-count-eq1-3.true

returns-7 : tie.Need-returns-then-count-eq1-3
returns-7 c = let s = c.before.before.before.before.before.before.before.before in came-live s.ranges.half s.requires 64 1 (is_64 s.args.size s.requires.line s.requires.more c.before.before.before.before.before.before.before.if-size-eq4.false c.before.before.before.before.before.before.if-size-eq8.false c.before.before.before.before.before.if-size-eq16.false c.before.before.before.before.if-size-eq32.false) c.before.before.before.if-count-eq1-3.true c.before.sixty_four.ensures

same-length-7 : tie.Need-shape_of-out-then-count-eq1-3
same-length-7 c = let s = c.before.before.before.before.before.before.before.before in as_long s.requires.given _ (returns-7 c)

sixty-four-requires-2 : tie.Need-sixty_four-requires-else-count-eq1-3
sixty-four-requires-2 c κs = let s = c.before.before.before.before.before.before in run_at s.ranges.half s.requires 64 s.args.count (is_64 s.args.size s.requires.line s.requires.more c.before.before.before.before.before.if-size-eq4.false c.before.before.before.before.if-size-eq8.false c.before.before.before.if-size-eq16.false c.before.before.if-size-eq32.false) refl

returns-8 : tie.Need-returns-else-count-eq1-3
returns-8 c = let s = c.before.before.before.before.before.before.before.before in came-live s.ranges.half s.requires 64 s.args.count (is_64 s.args.size s.requires.line s.requires.more c.before.before.before.before.before.before.before.if-size-eq4.false c.before.before.before.before.before.before.if-size-eq8.false c.before.before.before.before.before.if-size-eq16.false c.before.before.before.before.if-size-eq32.false) refl c.before.sixty_four-else-count-eq1-3.ensures

same-length-8 : tie.Need-shape_of-out-else-count-eq1-3
same-length-8 c = let s = c.before.before.before.before.before.before.before.before in as_long s.requires.given _ (returns-8 c)

pub zeros_spec : {M : Type 1} → statement M
zeros_spec =
    tie.close
    (tie.spec
    four-requires
    eight-requires
    sixteen-requires
    sixteen-requires-2
    thirty-two-requires
    thirty-two-requires-2
    sixty-four-requires
    sixty-four-requires-2
    same_length
    returns
    same-length-2
    returns-2
    same-length-3
    returns-3
    same-length-4
    returns-4
    same-length-5
    returns-5
    same-length-6
    returns-6
    same-length-7
    returns-7
    same-length-8
    returns-8)
