-- `first_along_8` meets its contract: what it was told of the numbers holds of the kernel's. Assumes nothing.
use native.Mathlib.Omega.{arith}
use mathlib.Core.Path.{◌≡◌}
use mir.Syntax.{w32}
use mir.Val.{to_z, of_z}
use mir.ValLaws.{to_z-of_z}
use Rattle.kernel_picks.proofs.Picking.{few-picks, last-8, pick-8, pick-12, pick-16, pick-20, pick-32, pick-40, pick-64, rows-so, rowed-so}
use Rattle.kernel_picks.proofs.along.first_along_8.Statement.{statement}
use Rattle.kernel_picks.proofs.along.first_along_8.Tie as tie

half_is : (c : tie.Start) → to_z w32 (of_z w32 c.args.half) ≡ c.args.half
half_is c = to_z-of_z w32 c.args.half c.ranges.half

add-pick : tie.Need-overflow_add-pick
add-pick c = omega (arith, few-picks 8 c.args.w c.args.wide c.requires.0)

along-4-4-8-requires : tie.Need-along_4_4_8-requires
along-4-4-8-requires c κs =
    let p = pick-8 8 c.before.before.args.w c.before.before.args.wide c.before.before.requires.0 c.before.if-pick-eq8.true in
    let g = rows-so p.0 p.1 (half_is c.before.before) c.before.before.requires.1.0 c.before.before.requires.1.1.0 in (g.0, (g.1, c.before.before.requires.1.1.1))

same_length : tie.Need-shape_of-r-then-pick-eq8
same_length c = c.before.along_4_4_8.auto.r

returns : tie.Need-returns-then-pick-eq8
returns c =
    let p = pick-8 8 c.before.before.before.before.args.w c.before.before.before.before.args.wide c.before.before.before.before.requires.0 c.before.before.before.if-pick-eq8.true in
    rowed-so 8 64 c.before.before.before.before.args.shift c.before.before.before.before.args.m.now p.0 p.1 (half_is c.before.before.before.before) c.before.along_4_4_8.ensures

along-8-4-8-requires : tie.Need-along_8_4_8-requires
along-8-4-8-requires c κs =
    let p = pick-12 8 c.before.before.before.args.w c.before.before.before.args.wide c.before.before.before.requires.0 c.before.if-pick-eq12.true in
    rows-so p.0 p.1 (half_is c.before.before.before) c.before.before.before.requires.1.0 c.before.before.before.requires.1.1.0

same-length-2 : tie.Need-shape_of-r-then-pick-eq12
same-length-2 c = c.before.along_8_4_8.auto.r

returns-2 : tie.Need-returns-then-pick-eq12
returns-2 c =
    let p = pick-12 8 c.before.before.before.before.before.args.w c.before.before.before.before.before.args.wide c.before.before.before.before.before.requires.0 c.before.before.before.if-pick-eq12.true in
    rowed-so 8 64 c.before.before.before.before.before.args.shift c.before.before.before.before.before.args.m.now p.0 p.1 (half_is c.before.before.before.before.before) c.before.along_8_4_8.ensures

along-8-8-8-requires : tie.Need-along_8_8_8-requires
along-8-8-8-requires c κs =
    let p = pick-16 8 c.before.before.before.before.args.w c.before.before.before.before.args.wide c.before.before.before.before.requires.0 c.before.if-pick-eq16.true in
    rows-so p.0 p.1 (half_is c.before.before.before.before) c.before.before.before.before.requires.1.0 c.before.before.before.before.requires.1.1.0

same-length-3 : tie.Need-shape_of-r-then-pick-eq16
same-length-3 c = c.before.along_8_8_8.auto.r

returns-3 : tie.Need-returns-then-pick-eq16
returns-3 c =
    let p = pick-16 8 c.before.before.before.before.before.before.args.w c.before.before.before.before.before.before.args.wide c.before.before.before.before.before.before.requires.0 c.before.before.before.if-pick-eq16.true in
    rowed-so 8 64 c.before.before.before.before.before.before.args.shift c.before.before.before.before.before.before.args.m.now p.0 p.1 (half_is c.before.before.before.before.before.before) c.before.along_8_8_8.ensures

along-16-4-8-requires : tie.Need-along_16_4_8-requires
along-16-4-8-requires c κs =
    let p = pick-20 8 c.before.before.before.before.before.args.w c.before.before.before.before.before.args.wide c.before.before.before.before.before.requires.0 c.before.if-pick-eq20.true in
    rows-so p.0 p.1 (half_is c.before.before.before.before.before) c.before.before.before.before.before.requires.1.0 c.before.before.before.before.before.requires.1.1.0

same-length-4 : tie.Need-shape_of-r-then-pick-eq20
same-length-4 c = c.before.along_16_4_8.auto.r

returns-4 : tie.Need-returns-then-pick-eq20
returns-4 c =
    let p = pick-20 8 c.before.before.before.before.before.before.before.args.w c.before.before.before.before.before.before.before.args.wide c.before.before.before.before.before.before.before.requires.0 c.before.before.before.if-pick-eq20.true in
    rowed-so 8 64 c.before.before.before.before.before.before.before.args.shift c.before.before.before.before.before.before.before.args.m.now p.0 p.1 (half_is c.before.before.before.before.before.before.before) c.before.along_16_4_8.ensures

along-16-16-8-requires : tie.Need-along_16_16_8-requires
along-16-16-8-requires c κs =
    let p = pick-32 8 c.before.before.before.before.before.before.args.w c.before.before.before.before.before.before.args.wide c.before.before.before.before.before.before.requires.0 c.before.if-pick-eq32.true in
    rows-so p.0 p.1 (half_is c.before.before.before.before.before.before) c.before.before.before.before.before.before.requires.1.0 c.before.before.before.before.before.before.requires.1.1.0

same-length-5 : tie.Need-shape_of-r-then-pick-eq32
same-length-5 c = c.before.along_16_16_8.auto.r

returns-5 : tie.Need-returns-then-pick-eq32
returns-5 c =
    let p = pick-32 8 c.before.before.before.before.before.before.before.before.args.w c.before.before.before.before.before.before.before.before.args.wide c.before.before.before.before.before.before.before.before.requires.0 c.before.before.before.if-pick-eq32.true in
    rowed-so 8 64 c.before.before.before.before.before.before.before.before.args.shift c.before.before.before.before.before.before.before.before.args.m.now p.0 p.1 (half_is c.before.before.before.before.before.before.before.before) c.before.along_16_16_8.ensures

along-32-8-8-requires : tie.Need-along_32_8_8-requires
along-32-8-8-requires c κs =
    let p = pick-40 8 c.before.before.before.before.before.before.before.args.w c.before.before.before.before.before.before.before.args.wide c.before.before.before.before.before.before.before.requires.0 c.before.if-pick-eq40.true in
    rows-so p.0 p.1 (half_is c.before.before.before.before.before.before.before) c.before.before.before.before.before.before.before.requires.1.0 c.before.before.before.before.before.before.before.requires.1.1.0

same-length-6 : tie.Need-shape_of-r-then-pick-eq40
same-length-6 c = c.before.along_32_8_8.auto.r

returns-6 : tie.Need-returns-then-pick-eq40
returns-6 c =
    let p = pick-40 8 c.before.before.before.before.before.before.before.before.before.args.w c.before.before.before.before.before.before.before.before.before.args.wide c.before.before.before.before.before.before.before.before.before.requires.0 c.before.before.before.if-pick-eq40.true in
    rowed-so 8 64 c.before.before.before.before.before.before.before.before.before.args.shift c.before.before.before.before.before.before.before.before.before.args.m.now p.0 p.1 (half_is c.before.before.before.before.before.before.before.before.before) c.before.along_32_8_8.ensures

along-32-32-8-requires : tie.Need-along_32_32_8-requires
along-32-32-8-requires c κs =
    let p = pick-64 8 c.before.before.before.before.before.before.before.args.w c.before.before.before.before.before.before.before.args.wide c.before.before.before.before.before.before.before.requires.0 (last-8 c.before.before.before.before.before.before.before.args.w c.before.before.before.before.before.before.before.args.wide c.before.before.before.before.before.before.before.requires.0 c.before.before.before.before.before.before.if-pick-eq8.false c.before.before.before.before.before.if-pick-eq12.false c.before.before.before.before.if-pick-eq16.false c.before.before.before.if-pick-eq20.false c.before.before.if-pick-eq32.false c.before.if-pick-eq40.false) in
    rows-so p.0 p.1 (half_is c.before.before.before.before.before.before.before) c.before.before.before.before.before.before.before.requires.1.0 c.before.before.before.before.before.before.before.requires.1.1.0

same-length-7 : tie.Need-shape_of-r
same-length-7 c = c.before.along_32_32_8.auto.r

returns-7 : tie.Need-returns
returns-7 c =
    let p = pick-64 8 c.before.before.before.before.before.before.before.before.before.args.w c.before.before.before.before.before.before.before.before.before.args.wide c.before.before.before.before.before.before.before.before.before.requires.0 (last-8 c.before.before.before.before.before.before.before.before.before.args.w c.before.before.before.before.before.before.before.before.before.args.wide c.before.before.before.before.before.before.before.before.before.requires.0 c.before.before.before.before.before.before.before.before.if-pick-eq8.false c.before.before.before.before.before.before.before.if-pick-eq12.false c.before.before.before.before.before.before.if-pick-eq16.false c.before.before.before.before.before.if-pick-eq20.false c.before.before.before.before.if-pick-eq32.false c.before.before.before.if-pick-eq40.false) in
    rowed-so 8 64 c.before.before.before.before.before.before.before.before.before.args.shift c.before.before.before.before.before.before.before.before.before.args.m.now p.0 p.1 (half_is c.before.before.before.before.before.before.before.before.before) c.before.along_32_32_8.ensures

pub first_along_8_spec : {M : Type 1} → statement M
first_along_8_spec = tie.close (tie.spec add-pick along-4-4-8-requires same_length returns along-8-4-8-requires same-length-2 returns-2 along-8-8-8-requires same-length-3 returns-3 along-16-4-8-requires same-length-4 returns-4 along-16-16-8-requires same-length-5 returns-5 along-32-8-8-requires same-length-6 returns-6 along-32-32-8-requires same-length-7 returns-7)
