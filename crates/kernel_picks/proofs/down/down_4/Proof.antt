-- `down_4` meets its contract. Assumes nothing.
use mathlib.Core.Path.{sym, subst}
use Prim.Native.Nat.{ℕ, min}
use Rattle.meaning.specs.Plan.{short_range}
use Rattle.meaning.specs.Inverse.{middle}
use Rattle.kernel_levels.specs.Kernels.{Strip, strip_sum, Turned}
use Rattle.kernel_picks.proofs.down.down_4.Statement.{statement}
use Rattle.kernel_picks.proofs.down.down_4.Tie as tie

first-down-4-requires : tie.Need-first_down_4-requires
first-down-4-requires c κs = (c.before.before.requires.0, (subst (λ (k : ℕ). Strip c.before.before.args.high 4 k c.before.before.args.x c.before.before.args.rows c.before.before.args.c.now) c.before.if-stride-eq4.true c.before.before.requires.1.0, c.before.before.requires.1.1))

same_length : tie.Need-shape_of-m-then-stride-eq4
same_length c = c.before.first_down_4.auto.m

returns : tie.Need-returns-then-stride-eq4
returns c = subst (λ (k : ℕ). Turned (min c.before.before.before.before.args.h 8) 4 c.before.before.before.before.args.h (λ i y. middle short_range (strip_sum c.before.before.before.before.args.h k c.before.before.before.before.args.x c.before.before.before.before.args.rows c.before.before.before.before.args.c.now i y)) c.before.first_down_4.new.m) (sym c.before.before.before.if-stride-eq4.true) c.before.first_down_4.ensures

next-down-4-requires : tie.Need-next_down_4-requires
next-down-4-requires c κs = c.before.before.requires

same-length-2 : tie.Need-shape_of-m
same-length-2 c = c.before.next_down_4.auto.m

returns-2 : tie.Need-returns
returns-2 c = c.before.next_down_4.ensures

pub down_4_spec : {M : Type 1} → statement M
down_4_spec = tie.close (tie.spec first-down-4-requires same_length returns next-down-4-requires same-length-2 returns-2)
