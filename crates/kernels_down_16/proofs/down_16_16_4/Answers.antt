-- Made by crates/kernel_levels/make; do not edit. `down_16_16_4`: up the levels from 2 points to 16, then into turned tiles. Assumes nothing.
use Rattle.std.proofs.Common.{◌≡◌, refl, ap, ◌+◌, ◌*◌, ◌<◌, pos, arith}
use Rattle.algebra.specs.Lists.{at}
use Rattle.meaning.specs.Plan.{short_range}
use Rattle.meaning.specs.Inverse.{middle}
use Rattle.product.specs.Product.{line_sum}
use Rattle.halves.specs.Halves.{evens}
use Rattle.halves.proofs.Halved.{halves-4, halves-8, halves-16}
use Rattle.kernel_levels.specs.Kernels.{strip_sum}
use Rattle.kernel_levels.proofs.Levels.{Dealt, dealt, weighed, Made, made_none, made-next, made-small, Sums, sums-small, lowest, up}
use Rattle.kernel_levels.proofs.Tiles.{places-8-4, Turning, turn-column, put_next}
use Rattle.kernel_levels.proofs.Stored.{first-2-2, first-2-2-right, odd-16-8, odd-16-8-right, odd-4-2, odd-4-2-right, odd-8-4, odd-8-4-right}
use Rattle.kernels_down_16.proofs.down_16_16_4.Goals as goal

pub butterfly-requires-in-loop-x : goal.butterfly-requires-in-loop-x
butterfly-requires-in-loop-x c =
    let taken : c.loop-x.x < 4 = omega arith in
    let dealt-a : Dealt 16 16 (λ i. at c.strip.new.b (c.loop-x.x + i * 4)) c.deal.new.a = dealt (omega arith) c.deal.ensures (λ i l. refl) in
    let dealt-2 : Dealt 2 2 (evens (evens (evens (at c.deal.new.a)))) c.deal-in-loop-x.new.a = dealt (omega arith) c.deal-in-loop-x.ensures (λ i l. let e : 0 + i * 8 ≡ 2 * (2 * (2 * (i))) = omega arith in ap (at c.deal.new.a) e) in
    let made-2-2 : Made 2 2 (line_sum c.deal-in-loop-x.new.a 0 2 first-2-2 4 1) c.some.new.out = made-next 2 (omega arith) (made_none 2 _) c.some.ensures in
    let level-2 : Sums 2 2 (pos 64) (evens (evens (evens (at c.deal.new.a)))) 1 c.lift.new.e = lowest (omega arith) first-2-2-right dealt-2 made-2-2 c.lift.ensures in
    let dealt-4 : Dealt 2 2 (λ i. (evens (evens (at c.deal.new.a))) (2 * i + 1)) c.deal-in-loop-x-2.new.a = dealt (omega arith) c.deal-in-loop-x-2.ensures (λ i l. let e : 4 + i * 8 ≡ 2 * (2 * (2 * i + 1)) = omega arith in ap (at c.deal.new.a) e) in
    let made-4-2 : Made 2 2 (line_sum c.deal-in-loop-x-2.new.a 0 2 odd-4-2 4 1) c.some-in-loop-x.new.out = made-next 2 (omega arith) (made_none 2 _) c.some-in-loop-x.ensures in
    let level-4 : Sums 4 4 (pos 64) (evens (evens (at c.deal.new.a))) 2 c.butterfly.new.out = up {x = evens (evens (at c.deal.new.a))} halves-4 (omega arith) odd-4-2-right dealt-4 level-2 made-4-2 c.butterfly.ensures in
    let dealt-8 : Dealt 4 4 (λ i. (evens (at c.deal.new.a)) (2 * i + 1)) c.deal-in-loop-x-3.new.a = dealt (omega arith) c.deal-in-loop-x-3.ensures (λ i l. let e : 2 + i * 4 ≡ 2 * (2 * i + 1) = omega arith in ap (at c.deal.new.a) e) in
    let made-8-4 : Made 4 4 (line_sum c.deal-in-loop-x-3.new.a 0 2 odd-8-4 8 2) c.some-in-loop-x-2.new.out = made-next 4 (omega arith) (made_none 4 _) c.some-in-loop-x-2.ensures in
    (sums-small (omega arith) level-4, (made-small made-8-4, (omega arith, (omega arith, omega arith))))

pub some-requires-in-loop-x-3 : goal.some-requires-in-loop-x-3
some-requires-in-loop-x-3 c =
    let taken : c.loop-x.x < 4 = omega arith in
    let dealt-a : Dealt 16 16 (λ i. at c.strip.new.b (c.loop-x.x + i * 4)) c.deal.new.a = dealt (omega arith) c.deal.ensures (λ i l. refl) in
    let dealt-2 : Dealt 2 2 (evens (evens (evens (at c.deal.new.a)))) c.deal-in-loop-x.new.a = dealt (omega arith) c.deal-in-loop-x.ensures (λ i l. let e : 0 + i * 8 ≡ 2 * (2 * (2 * (i))) = omega arith in ap (at c.deal.new.a) e) in
    let made-2-2 : Made 2 2 (line_sum c.deal-in-loop-x.new.a 0 2 first-2-2 4 1) c.some.new.out = made-next 2 (omega arith) (made_none 2 _) c.some.ensures in
    let level-2 : Sums 2 2 (pos 64) (evens (evens (evens (at c.deal.new.a)))) 1 c.lift.new.e = lowest (omega arith) first-2-2-right dealt-2 made-2-2 c.lift.ensures in
    let dealt-4 : Dealt 2 2 (λ i. (evens (evens (at c.deal.new.a))) (2 * i + 1)) c.deal-in-loop-x-2.new.a = dealt (omega arith) c.deal-in-loop-x-2.ensures (λ i l. let e : 4 + i * 8 ≡ 2 * (2 * (2 * i + 1)) = omega arith in ap (at c.deal.new.a) e) in
    let made-4-2 : Made 2 2 (line_sum c.deal-in-loop-x-2.new.a 0 2 odd-4-2 4 1) c.some-in-loop-x.new.out = made-next 2 (omega arith) (made_none 2 _) c.some-in-loop-x.ensures in
    let level-4 : Sums 4 4 (pos 64) (evens (evens (at c.deal.new.a))) 2 c.butterfly.new.out = up {x = evens (evens (at c.deal.new.a))} halves-4 (omega arith) odd-4-2-right dealt-4 level-2 made-4-2 c.butterfly.ensures in
    let dealt-8 : Dealt 4 4 (λ i. (evens (at c.deal.new.a)) (2 * i + 1)) c.deal-in-loop-x-3.new.a = dealt (omega arith) c.deal-in-loop-x-3.ensures (λ i l. let e : 2 + i * 4 ≡ 2 * (2 * i + 1) = omega arith in ap (at c.deal.new.a) e) in
    let made-8-4 : Made 4 4 (line_sum c.deal-in-loop-x-3.new.a 0 2 odd-8-4 8 2) c.some-in-loop-x-2.new.out = made-next 4 (omega arith) (made_none 4 _) c.some-in-loop-x-2.ensures in
    let level-8 : Sums 8 8 (pos 64) (evens (at c.deal.new.a)) 3 c.butterfly-in-loop-x.new.out = up {x = evens (at c.deal.new.a)} halves-8 (omega arith) odd-8-4-right dealt-8 level-4 made-8-4 c.butterfly-in-loop-x.ensures in
    let dealt-16 : Dealt 8 8 (λ i. (at c.deal.new.a) (2 * i + 1)) c.deal-in-loop-x-4.new.a = dealt (omega arith) c.deal-in-loop-x-4.ensures (λ i l. let e : 1 + i * 2 ≡ 2 * i + 1 = omega arith in ap (at c.deal.new.a) e) in
    (weighed odd-16-8-right dealt-16 4 (omega arith), (omega arith, omega arith))

pub some-requires-in-loop-x-4 : goal.some-requires-in-loop-x-4
some-requires-in-loop-x-4 c =
    let taken : c.loop-x.x < 4 = omega arith in
    let dealt-a : Dealt 16 16 (λ i. at c.strip.new.b (c.loop-x.x + i * 4)) c.deal.new.a = dealt (omega arith) c.deal.ensures (λ i l. refl) in
    let dealt-2 : Dealt 2 2 (evens (evens (evens (at c.deal.new.a)))) c.deal-in-loop-x.new.a = dealt (omega arith) c.deal-in-loop-x.ensures (λ i l. let e : 0 + i * 8 ≡ 2 * (2 * (2 * (i))) = omega arith in ap (at c.deal.new.a) e) in
    let made-2-2 : Made 2 2 (line_sum c.deal-in-loop-x.new.a 0 2 first-2-2 4 1) c.some.new.out = made-next 2 (omega arith) (made_none 2 _) c.some.ensures in
    let level-2 : Sums 2 2 (pos 64) (evens (evens (evens (at c.deal.new.a)))) 1 c.lift.new.e = lowest (omega arith) first-2-2-right dealt-2 made-2-2 c.lift.ensures in
    let dealt-4 : Dealt 2 2 (λ i. (evens (evens (at c.deal.new.a))) (2 * i + 1)) c.deal-in-loop-x-2.new.a = dealt (omega arith) c.deal-in-loop-x-2.ensures (λ i l. let e : 4 + i * 8 ≡ 2 * (2 * (2 * i + 1)) = omega arith in ap (at c.deal.new.a) e) in
    let made-4-2 : Made 2 2 (line_sum c.deal-in-loop-x-2.new.a 0 2 odd-4-2 4 1) c.some-in-loop-x.new.out = made-next 2 (omega arith) (made_none 2 _) c.some-in-loop-x.ensures in
    let level-4 : Sums 4 4 (pos 64) (evens (evens (at c.deal.new.a))) 2 c.butterfly.new.out = up {x = evens (evens (at c.deal.new.a))} halves-4 (omega arith) odd-4-2-right dealt-4 level-2 made-4-2 c.butterfly.ensures in
    let dealt-8 : Dealt 4 4 (λ i. (evens (at c.deal.new.a)) (2 * i + 1)) c.deal-in-loop-x-3.new.a = dealt (omega arith) c.deal-in-loop-x-3.ensures (λ i l. let e : 2 + i * 4 ≡ 2 * (2 * i + 1) = omega arith in ap (at c.deal.new.a) e) in
    let made-8-4 : Made 4 4 (line_sum c.deal-in-loop-x-3.new.a 0 2 odd-8-4 8 2) c.some-in-loop-x-2.new.out = made-next 4 (omega arith) (made_none 4 _) c.some-in-loop-x-2.ensures in
    let level-8 : Sums 8 8 (pos 64) (evens (at c.deal.new.a)) 3 c.butterfly-in-loop-x.new.out = up {x = evens (at c.deal.new.a)} halves-8 (omega arith) odd-8-4-right dealt-8 level-4 made-8-4 c.butterfly-in-loop-x.ensures in
    let dealt-16 : Dealt 8 8 (λ i. (at c.deal.new.a) (2 * i + 1)) c.deal-in-loop-x-4.new.a = dealt (omega arith) c.deal-in-loop-x-4.ensures (λ i l. let e : 1 + i * 2 ≡ 2 * i + 1 = omega arith in ap (at c.deal.new.a) e) in
    let made-16-4 : Made 4 8 (line_sum c.deal-in-loop-x-4.new.a 0 2 odd-16-8 16 4) c.some-in-loop-x-3.new.out = made-next 4 (omega arith) (made_none 8 _) c.some-in-loop-x-3.ensures in
    (weighed odd-16-8-right dealt-16 8 (omega arith), (omega arith, omega (arith, made-16-4.long)))

pub butterfly-requires-in-loop-x-2 : goal.butterfly-requires-in-loop-x-2
butterfly-requires-in-loop-x-2 c =
    let taken : c.loop-x.x < 4 = omega arith in
    let dealt-a : Dealt 16 16 (λ i. at c.strip.new.b (c.loop-x.x + i * 4)) c.deal.new.a = dealt (omega arith) c.deal.ensures (λ i l. refl) in
    let dealt-2 : Dealt 2 2 (evens (evens (evens (at c.deal.new.a)))) c.deal-in-loop-x.new.a = dealt (omega arith) c.deal-in-loop-x.ensures (λ i l. let e : 0 + i * 8 ≡ 2 * (2 * (2 * (i))) = omega arith in ap (at c.deal.new.a) e) in
    let made-2-2 : Made 2 2 (line_sum c.deal-in-loop-x.new.a 0 2 first-2-2 4 1) c.some.new.out = made-next 2 (omega arith) (made_none 2 _) c.some.ensures in
    let level-2 : Sums 2 2 (pos 64) (evens (evens (evens (at c.deal.new.a)))) 1 c.lift.new.e = lowest (omega arith) first-2-2-right dealt-2 made-2-2 c.lift.ensures in
    let dealt-4 : Dealt 2 2 (λ i. (evens (evens (at c.deal.new.a))) (2 * i + 1)) c.deal-in-loop-x-2.new.a = dealt (omega arith) c.deal-in-loop-x-2.ensures (λ i l. let e : 4 + i * 8 ≡ 2 * (2 * (2 * i + 1)) = omega arith in ap (at c.deal.new.a) e) in
    let made-4-2 : Made 2 2 (line_sum c.deal-in-loop-x-2.new.a 0 2 odd-4-2 4 1) c.some-in-loop-x.new.out = made-next 2 (omega arith) (made_none 2 _) c.some-in-loop-x.ensures in
    let level-4 : Sums 4 4 (pos 64) (evens (evens (at c.deal.new.a))) 2 c.butterfly.new.out = up {x = evens (evens (at c.deal.new.a))} halves-4 (omega arith) odd-4-2-right dealt-4 level-2 made-4-2 c.butterfly.ensures in
    let dealt-8 : Dealt 4 4 (λ i. (evens (at c.deal.new.a)) (2 * i + 1)) c.deal-in-loop-x-3.new.a = dealt (omega arith) c.deal-in-loop-x-3.ensures (λ i l. let e : 2 + i * 4 ≡ 2 * (2 * i + 1) = omega arith in ap (at c.deal.new.a) e) in
    let made-8-4 : Made 4 4 (line_sum c.deal-in-loop-x-3.new.a 0 2 odd-8-4 8 2) c.some-in-loop-x-2.new.out = made-next 4 (omega arith) (made_none 4 _) c.some-in-loop-x-2.ensures in
    let level-8 : Sums 8 8 (pos 64) (evens (at c.deal.new.a)) 3 c.butterfly-in-loop-x.new.out = up {x = evens (at c.deal.new.a)} halves-8 (omega arith) odd-8-4-right dealt-8 level-4 made-8-4 c.butterfly-in-loop-x.ensures in
    let dealt-16 : Dealt 8 8 (λ i. (at c.deal.new.a) (2 * i + 1)) c.deal-in-loop-x-4.new.a = dealt (omega arith) c.deal-in-loop-x-4.ensures (λ i l. let e : 1 + i * 2 ≡ 2 * i + 1 = omega arith in ap (at c.deal.new.a) e) in
    let made-16-4 : Made 4 8 (line_sum c.deal-in-loop-x-4.new.a 0 2 odd-16-8 16 4) c.some-in-loop-x-3.new.out = made-next 4 (omega arith) (made_none 8 _) c.some-in-loop-x-3.ensures in
    let made-16-8 : Made 8 8 (line_sum c.deal-in-loop-x-4.new.a 0 2 odd-16-8 16 4) c.some-in-loop-x-4.new.out = made-next 8 (omega arith) made-16-4 c.some-in-loop-x-4.ensures in
    (sums-small (omega arith) level-8, (made-small made-16-8, (omega arith, (omega arith, omega arith))))

pub loop-x-preserved : goal.loop-x-preserved
loop-x-preserved c =
    let taken : c.loop-x.x < 4 = omega arith in
    let dealt-a : Dealt 16 16 (λ i. at c.strip.new.b (c.loop-x.x + i * 4)) c.deal.new.a = dealt (omega arith) c.deal.ensures (λ i l. refl) in
    let dealt-2 : Dealt 2 2 (evens (evens (evens (at c.deal.new.a)))) c.deal-in-loop-x.new.a = dealt (omega arith) c.deal-in-loop-x.ensures (λ i l. let e : 0 + i * 8 ≡ 2 * (2 * (2 * (i))) = omega arith in ap (at c.deal.new.a) e) in
    let made-2-2 : Made 2 2 (line_sum c.deal-in-loop-x.new.a 0 2 first-2-2 4 1) c.some.new.out = made-next 2 (omega arith) (made_none 2 _) c.some.ensures in
    let level-2 : Sums 2 2 (pos 64) (evens (evens (evens (at c.deal.new.a)))) 1 c.lift.new.e = lowest (omega arith) first-2-2-right dealt-2 made-2-2 c.lift.ensures in
    let dealt-4 : Dealt 2 2 (λ i. (evens (evens (at c.deal.new.a))) (2 * i + 1)) c.deal-in-loop-x-2.new.a = dealt (omega arith) c.deal-in-loop-x-2.ensures (λ i l. let e : 4 + i * 8 ≡ 2 * (2 * (2 * i + 1)) = omega arith in ap (at c.deal.new.a) e) in
    let made-4-2 : Made 2 2 (line_sum c.deal-in-loop-x-2.new.a 0 2 odd-4-2 4 1) c.some-in-loop-x.new.out = made-next 2 (omega arith) (made_none 2 _) c.some-in-loop-x.ensures in
    let level-4 : Sums 4 4 (pos 64) (evens (evens (at c.deal.new.a))) 2 c.butterfly.new.out = up {x = evens (evens (at c.deal.new.a))} halves-4 (omega arith) odd-4-2-right dealt-4 level-2 made-4-2 c.butterfly.ensures in
    let dealt-8 : Dealt 4 4 (λ i. (evens (at c.deal.new.a)) (2 * i + 1)) c.deal-in-loop-x-3.new.a = dealt (omega arith) c.deal-in-loop-x-3.ensures (λ i l. let e : 2 + i * 4 ≡ 2 * (2 * i + 1) = omega arith in ap (at c.deal.new.a) e) in
    let made-8-4 : Made 4 4 (line_sum c.deal-in-loop-x-3.new.a 0 2 odd-8-4 8 2) c.some-in-loop-x-2.new.out = made-next 4 (omega arith) (made_none 4 _) c.some-in-loop-x-2.ensures in
    let level-8 : Sums 8 8 (pos 64) (evens (at c.deal.new.a)) 3 c.butterfly-in-loop-x.new.out = up {x = evens (at c.deal.new.a)} halves-8 (omega arith) odd-8-4-right dealt-8 level-4 made-8-4 c.butterfly-in-loop-x.ensures in
    let dealt-16 : Dealt 8 8 (λ i. (at c.deal.new.a) (2 * i + 1)) c.deal-in-loop-x-4.new.a = dealt (omega arith) c.deal-in-loop-x-4.ensures (λ i l. let e : 1 + i * 2 ≡ 2 * i + 1 = omega arith in ap (at c.deal.new.a) e) in
    let made-16-4 : Made 4 8 (line_sum c.deal-in-loop-x-4.new.a 0 2 odd-16-8 16 4) c.some-in-loop-x-3.new.out = made-next 4 (omega arith) (made_none 8 _) c.some-in-loop-x-3.ensures in
    let made-16-8 : Made 8 8 (line_sum c.deal-in-loop-x-4.new.a 0 2 odd-16-8 16 4) c.some-in-loop-x-4.new.out = made-next 8 (omega arith) made-16-4 c.some-in-loop-x-4.ensures in
    let level-16 : Sums 16 16 (pos 64) (at c.deal.new.a) 4 c.butterfly-in-loop-x-2.new.out = up {x = at c.deal.new.a} halves-16 (omega arith) odd-16-8-right dealt-16 level-8 made-16-8 c.butterfly-in-loop-x-2.ensures in
    let tile-8 : Turning 8 4 16 c.loop-x.x 8 (λ x y. middle short_range (strip_sum 16 c.args.w c.args.x0 c.args.rows c.args.c.now x y)) c.put.new.m c.args.m.now = put_next 64 c.args.w c.args.x0 c.args.c.now places-8-4 c.requires.0.few taken c.strip.ensures dealt-a level-16 0 refl (omega arith) (omega arith) c.loop-x.invariant c.put.ensures in
    let tile-16 : Turning 8 4 16 c.loop-x.x 16 (λ x y. middle short_range (strip_sum 16 c.args.w c.args.x0 c.args.rows c.args.c.now x y)) c.put-in-loop-x.new.m c.args.m.now = put_next 64 c.args.w c.args.x0 c.args.c.now places-8-4 c.requires.0.few taken c.strip.ensures dealt-a level-16 8 refl (omega arith) (omega arith) tile-8 c.put-in-loop-x.ensures in
    turn-column (omega arith) tile-16
