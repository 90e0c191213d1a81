-- `down_8` meets its contract. Assumes nothing.
use mathlib.Core.Path.{sym, subst}
use Prim.Native.Nat.{ℕ, min}
use Rattle.meaning.specs.Plan.{short_range}
use Rattle.meaning.specs.Inverse.{middle}
use Rattle.kernel_levels.specs.Kernels.{Strip, strip_sum, Turned}
use Rattle.kernel_picks.proofs.down.down_8.Statement.{statement}
use Rattle.kernel_picks.proofs.down.down_8.Tie as tie

first-down-8-requires : tie.Need-first_down_8-requires
first-down-8-requires c κs = (c.before.before.requires.0, (subst (λ (k : ℕ). Strip c.before.before.args.high 8 c.before.before.args.stride k c.before.before.args.rows c.before.before.args.c.now) c.before.if-x-eq0.true c.before.before.requires.1.0, c.before.before.requires.1.1))

same_length : tie.Need-shape_of-m-then-x-eq0
same_length c = c.before.first_down_8.auto.m

returns : tie.Need-returns-then-x-eq0
returns c = subst (λ (k : ℕ). Turned (min c.before.before.before.before.args.h 8) 8 c.before.before.before.before.args.h (λ i y. middle short_range (strip_sum c.before.before.before.before.args.h c.before.before.before.before.args.stride k c.before.before.before.before.args.rows c.before.before.before.before.args.c.now i y)) c.before.first_down_8.new.m) (sym c.before.before.before.if-x-eq0.true) c.before.first_down_8.ensures

next-down-8-requires : tie.Need-next_down_8-requires
next-down-8-requires c κs = c.before.before.requires

same-length-2 : tie.Need-shape_of-m
same-length-2 c = c.before.next_down_8.auto.m

returns-2 : tie.Need-returns
returns-2 c = c.before.next_down_8.ensures

pub down_8_spec : {M : Type 1} → statement M
down_8_spec = tie.close (tie.spec first-down-8-requires same_length returns next-down-8-requires same-length-2 returns-2)
