-- `lines_of` meets its contract: by the kind. Assumes nothing.
use borrow.Author.Rules.{rules}
use native.Mathlib.Omega.{arith}
use mathlib.Core.Path.{refl}
use mir.Syntax.{w32}
use mir.Val.{to_z, of_z}
use Rattle.transform_line.proofs.Runs.{run_at, came-live, as_long, of-kind, kind-back}
use Rattle.transform_line.proofs.lines.lines_of.Statement.{statement}
use Rattle.transform_line.proofs.lines.lines_of.Tie as tie

zeros-requires : tie.Need-zeros-requires
zeros-requires c κs = let s = c.before.before in of-kind c.before.if-kind-eq0.true (run_at s.ranges.half s.requires s.args.size s.args.count refl refl)

others-requires : tie.Need-others-requires
others-requires c κs = let s = c.before.before in (run_at s.ranges.half s.requires s.args.size s.args.count refl refl, c.before.if-kind-eq0.false)

returns : tie.Need-returns-then-kind-eq0
returns c = let s = c.before.before.before.before in came-live s.ranges.half s.requires s.args.size s.args.count refl refl (kind-back s.args.size s.args.live s.args.count s.args.step (to_z w32 (of_z w32 s.args.half)) s.args.shift s.args.m.now c.before.before.before.if-kind-eq0.true c.before.zeros.ensures)

same_length : tie.Need-shape_of-out-then-kind-eq0
same_length c = let s = c.before.before.before.before in as_long s.requires.given _ (returns c)

returns-2 : tie.Need-returns-else-kind-eq0
returns-2 c = let s = c.before.before.before.before in came-live s.ranges.half s.requires s.args.size s.args.count refl refl c.before.others.ensures

same-length-2 : tie.Need-shape_of-out-else-kind-eq0
same-length-2 c = let s = c.before.before.before.before in as_long s.requires.given _ (returns-2 c)

pub lines_of_spec : {M : Type 1} → statement M
lines_of_spec =
    tie.close
    (tie.spec
    zeros-requires
    others-requires
    same_length
    returns
    same-length-2
    returns-2)
