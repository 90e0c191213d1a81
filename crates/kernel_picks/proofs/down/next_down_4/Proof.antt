-- `next_down_4` meets its contract: what it was told of the numbers holds of the kernel's. Assumes nothing.
use native.Mathlib.Omega.{arith}
use Rattle.kernel_picks.proofs.Picking.{few-picks, last-4, pick-16, pick-32, strip-so, turned_so}
use Rattle.kernel_picks.proofs.down.next_down_4.Statement.{statement}
use Rattle.kernel_picks.proofs.down.next_down_4.Tie as tie

add-pick : tie.Need-overflow_add-pick
add-pick c = omega (arith, few-picks 4 c.args.h c.args.high c.requires.0)

down-8-8-4-requires : tie.Need-down_8_8_4-requires
down-8-8-4-requires c κs =
    let p = pick-16 4 c.before.before.args.h c.before.before.args.high c.before.before.requires.0 c.before.if-pick-eq16.true in
    strip-so p.0 p.1 c.before.before.requires.1

same_length : tie.Need-shape_of-m-then-pick-eq16
same_length c = c.before.down_8_8_4.auto.m

returns : tie.Need-returns-then-pick-eq16
returns c =
    let p = pick-16 4 c.before.before.before.before.args.h c.before.before.before.before.args.high c.before.before.before.before.requires.0 c.before.before.before.if-pick-eq16.true in
    turned_so 4 c.before.before.before.before.args.stride c.before.before.before.before.args.x c.before.before.before.before.args.rows c.before.before.before.before.args.c.now p.0 c.before.down_8_8_4.ensures

down-16-16-4-requires : tie.Need-down_16_16_4-requires
down-16-16-4-requires c κs =
    let p = pick-32 4 c.before.before.args.h c.before.before.args.high c.before.before.requires.0 (last-4 c.before.before.args.h c.before.before.args.high c.before.before.requires.0 c.before.if-pick-eq16.false) in
    strip-so p.0 p.1 c.before.before.requires.1

same-length-2 : tie.Need-shape_of-m
same-length-2 c = c.before.down_16_16_4.auto.m

returns-2 : tie.Need-returns
returns-2 c =
    let p = pick-32 4 c.before.before.before.before.args.h c.before.before.before.before.args.high c.before.before.before.before.requires.0 (last-4 c.before.before.before.before.args.h c.before.before.before.before.args.high c.before.before.before.before.requires.0 c.before.before.before.if-pick-eq16.false) in
    turned_so 4 c.before.before.before.before.args.stride c.before.before.before.before.args.x c.before.before.before.before.args.rows c.before.before.before.before.args.c.now p.0 c.before.down_16_16_4.ensures

pub next_down_4_spec : {M : Type 1} → statement M
next_down_4_spec = tie.close (tie.spec add-pick down-8-8-4-requires same_length returns down-16-16-4-requires same-length-2 returns-2)
