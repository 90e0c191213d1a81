-- `next_down_8` meets its contract: what it was told of the numbers holds of the kernel's. Assumes nothing.
use native.Mathlib.Omega.{arith}
use mathlib.Core.Path.{refl}
use Rattle.kernel_picks.proofs.Picking.{few-picks, last-8, pick-8, pick-12, pick-16, pick-20, pick-32, pick-40, pick-64, strip-so, turned_so}
use Rattle.kernel_picks.proofs.down.next_down_8.Statement.{statement}
use Rattle.kernel_picks.proofs.down.next_down_8.Tie as tie

add-pick : tie.Need-overflow_add-pick
add-pick c = omega (arith, few-picks 8 c.args.h c.args.high c.requires.0)

down-4-4-8-requires : tie.Need-down_4_4_8-requires
down-4-4-8-requires c κs =
    let p = pick-8 8 c.before.before.args.h c.before.before.args.high c.before.before.requires.0 c.before.if-pick-eq8.true in
    let g = strip-so p.0 p.1 c.before.before.requires.1 in (g.0, (g.1, refl))

same_length : tie.Need-shape_of-m-then-pick-eq8
same_length c = c.before.down_4_4_8.auto.m

returns : tie.Need-returns-then-pick-eq8
returns c =
    let p = pick-8 8 c.before.before.before.before.args.h c.before.before.before.before.args.high c.before.before.before.before.requires.0 c.before.before.before.if-pick-eq8.true in
    turned_so 8 c.before.before.before.before.args.stride c.before.before.before.before.args.x c.before.before.before.before.args.rows c.before.before.before.before.args.c.now p.0 c.before.down_4_4_8.ensures

down-8-4-8-requires : tie.Need-down_8_4_8-requires
down-8-4-8-requires c κs =
    let p = pick-12 8 c.before.before.before.args.h c.before.before.before.args.high c.before.before.before.requires.0 c.before.if-pick-eq12.true in
    strip-so p.0 p.1 c.before.before.before.requires.1

same-length-2 : tie.Need-shape_of-m-then-pick-eq12
same-length-2 c = c.before.down_8_4_8.auto.m

returns-2 : tie.Need-returns-then-pick-eq12
returns-2 c =
    let p = pick-12 8 c.before.before.before.before.before.args.h c.before.before.before.before.before.args.high c.before.before.before.before.before.requires.0 c.before.before.before.if-pick-eq12.true in
    turned_so 8 c.before.before.before.before.before.args.stride c.before.before.before.before.before.args.x c.before.before.before.before.before.args.rows c.before.before.before.before.before.args.c.now p.0 c.before.down_8_4_8.ensures

down-8-8-8-requires : tie.Need-down_8_8_8-requires
down-8-8-8-requires c κs =
    let p = pick-16 8 c.before.before.before.before.args.h c.before.before.before.before.args.high c.before.before.before.before.requires.0 c.before.if-pick-eq16.true in
    strip-so p.0 p.1 c.before.before.before.before.requires.1

same-length-3 : tie.Need-shape_of-m-then-pick-eq16
same-length-3 c = c.before.down_8_8_8.auto.m

returns-3 : tie.Need-returns-then-pick-eq16
returns-3 c =
    let p = pick-16 8 c.before.before.before.before.before.before.args.h c.before.before.before.before.before.before.args.high c.before.before.before.before.before.before.requires.0 c.before.before.before.if-pick-eq16.true in
    turned_so 8 c.before.before.before.before.before.before.args.stride c.before.before.before.before.before.before.args.x c.before.before.before.before.before.before.args.rows c.before.before.before.before.before.before.args.c.now p.0 c.before.down_8_8_8.ensures

down-16-4-8-requires : tie.Need-down_16_4_8-requires
down-16-4-8-requires c κs =
    let p = pick-20 8 c.before.before.before.before.before.args.h c.before.before.before.before.before.args.high c.before.before.before.before.before.requires.0 c.before.if-pick-eq20.true in
    strip-so p.0 p.1 c.before.before.before.before.before.requires.1

same-length-4 : tie.Need-shape_of-m-then-pick-eq20
same-length-4 c = c.before.down_16_4_8.auto.m

returns-4 : tie.Need-returns-then-pick-eq20
returns-4 c =
    let p = pick-20 8 c.before.before.before.before.before.before.before.args.h c.before.before.before.before.before.before.before.args.high c.before.before.before.before.before.before.before.requires.0 c.before.before.before.if-pick-eq20.true in
    turned_so 8 c.before.before.before.before.before.before.before.args.stride c.before.before.before.before.before.before.before.args.x c.before.before.before.before.before.before.before.args.rows c.before.before.before.before.before.before.before.args.c.now p.0 c.before.down_16_4_8.ensures

down-16-16-8-requires : tie.Need-down_16_16_8-requires
down-16-16-8-requires c κs =
    let p = pick-32 8 c.before.before.before.before.before.before.args.h c.before.before.before.before.before.before.args.high c.before.before.before.before.before.before.requires.0 c.before.if-pick-eq32.true in
    strip-so p.0 p.1 c.before.before.before.before.before.before.requires.1

same-length-5 : tie.Need-shape_of-m-then-pick-eq32
same-length-5 c = c.before.down_16_16_8.auto.m

returns-5 : tie.Need-returns-then-pick-eq32
returns-5 c =
    let p = pick-32 8 c.before.before.before.before.before.before.before.before.args.h c.before.before.before.before.before.before.before.before.args.high c.before.before.before.before.before.before.before.before.requires.0 c.before.before.before.if-pick-eq32.true in
    turned_so 8 c.before.before.before.before.before.before.before.before.args.stride c.before.before.before.before.before.before.before.before.args.x c.before.before.before.before.before.before.before.before.args.rows c.before.before.before.before.before.before.before.before.args.c.now p.0 c.before.down_16_16_8.ensures

down-32-8-8-requires : tie.Need-down_32_8_8-requires
down-32-8-8-requires c κs =
    let p = pick-40 8 c.before.before.before.before.before.before.before.args.h c.before.before.before.before.before.before.before.args.high c.before.before.before.before.before.before.before.requires.0 c.before.if-pick-eq40.true in
    strip-so p.0 p.1 c.before.before.before.before.before.before.before.requires.1

same-length-6 : tie.Need-shape_of-m-then-pick-eq40
same-length-6 c = c.before.down_32_8_8.auto.m

returns-6 : tie.Need-returns-then-pick-eq40
returns-6 c =
    let p = pick-40 8 c.before.before.before.before.before.before.before.before.before.args.h c.before.before.before.before.before.before.before.before.before.args.high c.before.before.before.before.before.before.before.before.before.requires.0 c.before.before.before.if-pick-eq40.true in
    turned_so 8 c.before.before.before.before.before.before.before.before.before.args.stride c.before.before.before.before.before.before.before.before.before.args.x c.before.before.before.before.before.before.before.before.before.args.rows c.before.before.before.before.before.before.before.before.before.args.c.now p.0 c.before.down_32_8_8.ensures

down-32-32-8-requires : tie.Need-down_32_32_8-requires
down-32-32-8-requires c κs =
    let p = pick-64 8 c.before.before.before.before.before.before.before.args.h c.before.before.before.before.before.before.before.args.high c.before.before.before.before.before.before.before.requires.0 (last-8 c.before.before.before.before.before.before.before.args.h c.before.before.before.before.before.before.before.args.high c.before.before.before.before.before.before.before.requires.0 c.before.before.before.before.before.before.if-pick-eq8.false c.before.before.before.before.before.if-pick-eq12.false c.before.before.before.before.if-pick-eq16.false c.before.before.before.if-pick-eq20.false c.before.before.if-pick-eq32.false c.before.if-pick-eq40.false) in
    strip-so p.0 p.1 c.before.before.before.before.before.before.before.requires.1

same-length-7 : tie.Need-shape_of-m
same-length-7 c = c.before.down_32_32_8.auto.m

returns-7 : tie.Need-returns
returns-7 c =
    let p = pick-64 8 c.before.before.before.before.before.before.before.before.before.args.h c.before.before.before.before.before.before.before.before.before.args.high c.before.before.before.before.before.before.before.before.before.requires.0 (last-8 c.before.before.before.before.before.before.before.before.before.args.h c.before.before.before.before.before.before.before.before.before.args.high c.before.before.before.before.before.before.before.before.before.requires.0 c.before.before.before.before.before.before.before.before.if-pick-eq8.false c.before.before.before.before.before.before.before.if-pick-eq12.false c.before.before.before.before.before.before.if-pick-eq16.false c.before.before.before.before.before.if-pick-eq20.false c.before.before.before.before.if-pick-eq32.false c.before.before.before.if-pick-eq40.false) in
    turned_so 8 c.before.before.before.before.before.before.before.before.before.args.stride c.before.before.before.before.before.before.before.before.before.args.x c.before.before.before.before.before.before.before.before.before.args.rows c.before.before.before.before.before.before.before.before.before.args.c.now p.0 c.before.down_32_32_8.ensures

pub next_down_8_spec : {M : Type 1} → statement M
next_down_8_spec = tie.close (tie.spec add-pick down-4-4-8-requires same_length returns down-8-4-8-requires same-length-2 returns-2 down-8-8-8-requires same-length-3 returns-3 down-16-4-8-requires same-length-4 returns-4 down-16-16-8-requires same-length-5 returns-5 down-32-8-8-requires same-length-6 returns-6 down-32-32-8-requires same-length-7 returns-7)
