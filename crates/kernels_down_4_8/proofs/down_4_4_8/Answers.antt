-- Made by crates/kernel_levels/make; do not edit. `down_4_4_8`: up the levels from 2 points to 4, then into turned tiles. Assumes nothing.
use Rattle.std.proofs.Common.{◌≡◌, refl, ap, ◌+◌, ◌*◌, ◌<◌, pos, arith}
use Rattle.algebra.specs.Lists.{at}
use Rattle.meaning.specs.Plan.{short_range}
use Rattle.meaning.specs.Inverse.{middle}
use Rattle.product.specs.Product.{line_sum}
use Rattle.halves.specs.Halves.{evens}
use Rattle.halves.proofs.Halved.{halves-4}
use Rattle.kernel_levels.specs.Kernels.{strip_sum}
use Rattle.kernel_levels.proofs.Levels.{Dealt, dealt, Made, made_none, made-next, Sums, lowest, up}
use Rattle.kernel_levels.proofs.Tiles.{places-4-8, Turning, turn-column, turn-all, put_next}
use Rattle.kernel_levels.proofs.Stored.{first-2-2, first-2-2-right, odd-4-2, odd-4-2-right}
use Rattle.kernels_down_4_8.proofs.down_4_4_8.Goals as goal

pub loop-x-preserved : goal.loop-x-preserved
loop-x-preserved c =
    let taken : c.loop-x.x < 8 = omega (arith, c.requires.1.1) in
    let dealt-a : Dealt 4 4 (λ i. at c.strip.new.b (c.loop-x.x + i * 8)) c.deal.new.a = dealt (omega arith) c.deal.ensures (λ i l. refl) in
    let dealt-2 : Dealt 2 2 (evens (at c.deal.new.a)) c.deal-in-loop-x.new.a = dealt (omega arith) c.deal-in-loop-x.ensures (λ i l. let e : 0 + i * 2 ≡ 2 * (i) = omega arith in ap (at c.deal.new.a) e) in
    let made-2-2 : Made 2 2 (line_sum c.deal-in-loop-x.new.a 0 2 first-2-2 4 1) c.some.new.out = made-next 2 (omega arith) (made_none 2 _) c.some.ensures in
    let level-2 : Sums 2 2 (pos 64) (evens (at c.deal.new.a)) 1 c.lift.new.e = lowest (omega arith) first-2-2-right dealt-2 made-2-2 c.lift.ensures in
    let dealt-4 : Dealt 2 2 (λ i. (at c.deal.new.a) (2 * i + 1)) c.deal-in-loop-x-2.new.a = dealt (omega arith) c.deal-in-loop-x-2.ensures (λ i l. let e : 1 + i * 2 ≡ 2 * i + 1 = omega arith in ap (at c.deal.new.a) e) in
    let made-4-2 : Made 2 2 (line_sum c.deal-in-loop-x-2.new.a 0 2 odd-4-2 4 1) c.some-in-loop-x.new.out = made-next 2 (omega arith) (made_none 2 _) c.some-in-loop-x.ensures in
    let level-4 : Sums 4 4 (pos 64) (at c.deal.new.a) 2 c.butterfly.new.out = up {x = at c.deal.new.a} halves-4 (omega arith) odd-4-2-right dealt-4 level-2 made-4-2 c.butterfly.ensures in
    let tile-4 : Turning 4 8 4 c.loop-x.x 4 (λ x y. middle short_range (strip_sum 4 c.args.w c.args.x0 c.args.rows c.args.c.now x y)) c.put.new.m c.args.m.now = put_next 32 c.args.w c.args.x0 c.args.c.now places-4-8 c.requires.0.few taken c.strip.ensures dealt-a level-4 0 refl (omega arith) (omega arith) c.loop-x.invariant c.put.ensures in
    turn-column (omega arith) tile-4

pub returns : goal.returns
returns c =
    turn-all (omega (arith, c.requires.1.1)) c.loop-x.invariant
