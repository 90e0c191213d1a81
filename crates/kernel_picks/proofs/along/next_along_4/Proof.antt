-- `next_along_4` meets its contract: what it was told of the numbers holds of the kernel's. Assumes nothing.
use native.Mathlib.Omega.{arith}
use mathlib.Core.Path.{◌≡◌}
use mir.Syntax.{w32}
use mir.Val.{to_z, of_z}
use mir.ValLaws.{to_z-of_z}
use Rattle.kernel_picks.proofs.Picking.{few-picks, last-4, pick-16, pick-32, rows-so, rowed-so}
use Rattle.kernel_picks.proofs.along.next_along_4.Statement.{statement}
use Rattle.kernel_picks.proofs.along.next_along_4.Tie as tie

half_is : (c : tie.Start) → to_z w32 (of_z w32 c.args.half) ≡ c.args.half
half_is c = to_z-of_z w32 c.args.half c.ranges.half

add-pick : tie.Need-overflow_add-pick
add-pick c = omega (arith, few-picks 4 c.args.w c.args.wide c.requires.0)

along-8-8-4-requires : tie.Need-along_8_8_4-requires
along-8-8-4-requires c κs =
    let p = pick-16 4 c.before.before.args.w c.before.before.args.wide c.before.before.requires.0 c.before.if-pick-eq16.true in
    rows-so p.0 p.1 (half_is c.before.before) c.before.before.requires.1.0 c.before.before.requires.1.1.0

same_length : tie.Need-shape_of-r-then-pick-eq16
same_length c = c.before.along_8_8_4.auto.r

returns : tie.Need-returns-then-pick-eq16
returns c =
    let p = pick-16 4 c.before.before.before.before.args.w c.before.before.before.before.args.wide c.before.before.before.before.requires.0 c.before.before.before.if-pick-eq16.true in
    rowed-so 4 c.before.before.before.before.args.apart c.before.before.before.before.args.shift c.before.before.before.before.args.m.now p.0 p.1 (half_is c.before.before.before.before) c.before.along_8_8_4.ensures

along-16-16-4-requires : tie.Need-along_16_16_4-requires
along-16-16-4-requires c κs =
    let p = pick-32 4 c.before.before.args.w c.before.before.args.wide c.before.before.requires.0 (last-4 c.before.before.args.w c.before.before.args.wide c.before.before.requires.0 c.before.if-pick-eq16.false) in
    rows-so p.0 p.1 (half_is c.before.before) c.before.before.requires.1.0 c.before.before.requires.1.1.0

same-length-2 : tie.Need-shape_of-r
same-length-2 c = c.before.along_16_16_4.auto.r

returns-2 : tie.Need-returns
returns-2 c =
    let p = pick-32 4 c.before.before.before.before.args.w c.before.before.before.before.args.wide c.before.before.before.before.requires.0 (last-4 c.before.before.before.before.args.w c.before.before.before.before.args.wide c.before.before.before.before.requires.0 c.before.before.before.if-pick-eq16.false) in
    rowed-so 4 c.before.before.before.before.args.apart c.before.before.before.before.args.shift c.before.before.before.before.args.m.now p.0 p.1 (half_is c.before.before.before.before) c.before.along_16_16_4.ensures

pub next_along_4_spec : {M : Type 1} → statement M
next_along_4_spec = tie.close (tie.spec add-pick along-8-8-4-requires same_length returns along-16-16-4-requires same-length-2 returns-2)
