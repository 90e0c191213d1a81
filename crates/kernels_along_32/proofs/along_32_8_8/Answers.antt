-- Made by crates/kernel_levels/make; do not edit. `along_32_8_8`: up the levels from 2 points to 32, then into rows. Assumes nothing.
use Rattle.std.proofs.Common.{◌≡◌, sym, ap, ◌∙◌, subst, ◌+◌, ◌*◌, ◌≤◌, ◌<◌, ℤ, pos, nat_abs, to_z, of_z, arith}
use mir.Syntax.{w32}
use mir.ValLaws.{to_z-of_z}
use lib.ListN.{replicate}
use Rattle.algebra.specs.Lists.{at, block}
use Rattle.product.specs.Product.{line_sum, shifted}
use Rattle.halves.specs.Halves.{evens}
use Rattle.halves.proofs.Halved.{halves-4, halves-8, halves-16, halves-32}
use Rattle.kernel_steps.specs.Written.{WroteFrom}
use Rattle.kernel_steps.proofs.Writing.{wrote-to}
use Rattle.kernel_levels.specs.Kernels.{across, rows_sum}
use Rattle.kernel_levels.proofs.Levels.{Dealt, dealt, Gathered, gather_none, weighed, Made, made_none, made-next, made-small, Sums, sums-small, lowest, up, mirrored}
use Rattle.kernel_levels.proofs.Across.{group-room, group-next, tiled, round-next, Columns, columns-none, columns-next, columns-all}
use Rattle.kernel_levels.proofs.Stored.{first-2-2, first-2-2-right, odd-16-2, odd-16-2-right, odd-32-4, odd-32-4-right, odd-8-2, odd-8-2-right}
use Rattle.kernels_along_32.proofs.along_32_8_8.Goals as goal

pub take-requires : goal.take-requires
take-requires c =
    let taken : c.loop-l.l < 8 = omega arith in
    (omega arith, λ i h. group-room c.requires.0 0 c.loop-l.l taken _ i (omega arith) (omega arith) (omega arith))

pub butterfly-requires : goal.butterfly-requires
butterfly-requires c =
    let taken : c.loop-l.l < 8 = omega arith in
    let gathered-8 : Gathered 8 8 (across c.args.m.now 8 c.args.apart c.loop-l.l) c.take.new.a = group-next c.requires.0 0 c.loop-l.l taken _ (omega arith) (omega arith) (omega arith) (gather_none 8 _) c.take.ensures in
    let half : ℤ = to_z w32 (of_z w32 c.args.half) in
    let half-is : half ≡ c.args.half = to_z-of_z w32 c.args.half c.ranges.half in
    let small : nat_abs half ≤ 1000000 = subst (λ (z : ℤ). nat_abs z ≤ 1000000) (sym half-is) c.requires.0.small in
    let dealt-2 : Dealt 1 2 (evens (evens (evens (evens (at c.take.new.a))))) c.deal.new.a = dealt (omega arith) c.deal.ensures (λ i l. let e : 0 + i * 16 ≡ 2 * (2 * (2 * (2 * (i)))) = omega arith in ap (at c.take.new.a) e) in
    let made-2-2 : Made 2 2 (line_sum c.deal.new.a 0 2 first-2-2 4 1) c.some.new.out = made-next 2 (omega arith) (made_none 2 _) c.some.ensures in
    let level-2 : Sums 2 1 half (evens (evens (evens (evens (at c.take.new.a))))) 1 c.lift.new.e = lowest small first-2-2-right dealt-2 made-2-2 c.lift.ensures in
    let level-4 : Sums 4 1 half (evens (evens (evens (at c.take.new.a)))) 1 c.mirror.new.out = mirrored {x = evens (evens (evens (at c.take.new.a)))} halves-4 (omega arith) level-2 c.mirror.ensures in
    let dealt-8 : Dealt 1 2 (λ i. (evens (evens (at c.take.new.a))) (2 * i + 1)) c.deal-in-loop-l.new.a = dealt (omega arith) c.deal-in-loop-l.ensures (λ i l. let e : 4 + i * 8 ≡ 2 * (2 * (2 * i + 1)) = omega arith in ap (at c.take.new.a) e) in
    let made-8-4 : Made 4 4 (line_sum c.deal-in-loop-l.new.a 0 2 odd-8-2 8 1) c.some-in-loop-l.new.out = made-next 4 (omega arith) (made_none 4 _) c.some-in-loop-l.ensures in
    (sums-small (omega arith) level-4, (made-small made-8-4, (omega arith, (omega arith, omega arith))))

pub some-requires-in-loop-l-3 : goal.some-requires-in-loop-l-3
some-requires-in-loop-l-3 c =
    let taken : c.loop-l.l < 8 = omega arith in
    let gathered-8 : Gathered 8 8 (across c.args.m.now 8 c.args.apart c.loop-l.l) c.take.new.a = group-next c.requires.0 0 c.loop-l.l taken _ (omega arith) (omega arith) (omega arith) (gather_none 8 _) c.take.ensures in
    let half : ℤ = to_z w32 (of_z w32 c.args.half) in
    let half-is : half ≡ c.args.half = to_z-of_z w32 c.args.half c.ranges.half in
    let small : nat_abs half ≤ 1000000 = subst (λ (z : ℤ). nat_abs z ≤ 1000000) (sym half-is) c.requires.0.small in
    let dealt-2 : Dealt 1 2 (evens (evens (evens (evens (at c.take.new.a))))) c.deal.new.a = dealt (omega arith) c.deal.ensures (λ i l. let e : 0 + i * 16 ≡ 2 * (2 * (2 * (2 * (i)))) = omega arith in ap (at c.take.new.a) e) in
    let made-2-2 : Made 2 2 (line_sum c.deal.new.a 0 2 first-2-2 4 1) c.some.new.out = made-next 2 (omega arith) (made_none 2 _) c.some.ensures in
    let level-2 : Sums 2 1 half (evens (evens (evens (evens (at c.take.new.a))))) 1 c.lift.new.e = lowest small first-2-2-right dealt-2 made-2-2 c.lift.ensures in
    let level-4 : Sums 4 1 half (evens (evens (evens (at c.take.new.a)))) 1 c.mirror.new.out = mirrored {x = evens (evens (evens (at c.take.new.a)))} halves-4 (omega arith) level-2 c.mirror.ensures in
    let dealt-8 : Dealt 1 2 (λ i. (evens (evens (at c.take.new.a))) (2 * i + 1)) c.deal-in-loop-l.new.a = dealt (omega arith) c.deal-in-loop-l.ensures (λ i l. let e : 4 + i * 8 ≡ 2 * (2 * (2 * i + 1)) = omega arith in ap (at c.take.new.a) e) in
    let made-8-4 : Made 4 4 (line_sum c.deal-in-loop-l.new.a 0 2 odd-8-2 8 1) c.some-in-loop-l.new.out = made-next 4 (omega arith) (made_none 4 _) c.some-in-loop-l.ensures in
    let level-8 : Sums 8 2 half (evens (evens (at c.take.new.a))) 2 c.butterfly.new.out = up {x = evens (evens (at c.take.new.a))} halves-8 (omega arith) odd-8-2-right dealt-8 level-4 made-8-4 c.butterfly.ensures in
    let dealt-16 : Dealt 2 2 (λ i. (evens (at c.take.new.a)) (2 * i + 1)) c.deal-in-loop-l-2.new.a = dealt (omega arith) c.deal-in-loop-l-2.ensures (λ i l. let e : 2 + i * 4 ≡ 2 * (2 * i + 1) = omega arith in ap (at c.take.new.a) e) in
    let made-16-4 : Made 4 8 (line_sum c.deal-in-loop-l-2.new.a 0 2 odd-16-2 16 1) c.some-in-loop-l-2.new.out = made-next 4 (omega arith) (made_none 8 _) c.some-in-loop-l-2.ensures in
    (weighed odd-16-2-right dealt-16 8 (omega arith), (omega arith, omega (arith, made-16-4.long)))

pub butterfly-requires-in-loop-l : goal.butterfly-requires-in-loop-l
butterfly-requires-in-loop-l c =
    let taken : c.loop-l.l < 8 = omega arith in
    let gathered-8 : Gathered 8 8 (across c.args.m.now 8 c.args.apart c.loop-l.l) c.take.new.a = group-next c.requires.0 0 c.loop-l.l taken _ (omega arith) (omega arith) (omega arith) (gather_none 8 _) c.take.ensures in
    let half : ℤ = to_z w32 (of_z w32 c.args.half) in
    let half-is : half ≡ c.args.half = to_z-of_z w32 c.args.half c.ranges.half in
    let small : nat_abs half ≤ 1000000 = subst (λ (z : ℤ). nat_abs z ≤ 1000000) (sym half-is) c.requires.0.small in
    let dealt-2 : Dealt 1 2 (evens (evens (evens (evens (at c.take.new.a))))) c.deal.new.a = dealt (omega arith) c.deal.ensures (λ i l. let e : 0 + i * 16 ≡ 2 * (2 * (2 * (2 * (i)))) = omega arith in ap (at c.take.new.a) e) in
    let made-2-2 : Made 2 2 (line_sum c.deal.new.a 0 2 first-2-2 4 1) c.some.new.out = made-next 2 (omega arith) (made_none 2 _) c.some.ensures in
    let level-2 : Sums 2 1 half (evens (evens (evens (evens (at c.take.new.a))))) 1 c.lift.new.e = lowest small first-2-2-right dealt-2 made-2-2 c.lift.ensures in
    let level-4 : Sums 4 1 half (evens (evens (evens (at c.take.new.a)))) 1 c.mirror.new.out = mirrored {x = evens (evens (evens (at c.take.new.a)))} halves-4 (omega arith) level-2 c.mirror.ensures in
    let dealt-8 : Dealt 1 2 (λ i. (evens (evens (at c.take.new.a))) (2 * i + 1)) c.deal-in-loop-l.new.a = dealt (omega arith) c.deal-in-loop-l.ensures (λ i l. let e : 4 + i * 8 ≡ 2 * (2 * (2 * i + 1)) = omega arith in ap (at c.take.new.a) e) in
    let made-8-4 : Made 4 4 (line_sum c.deal-in-loop-l.new.a 0 2 odd-8-2 8 1) c.some-in-loop-l.new.out = made-next 4 (omega arith) (made_none 4 _) c.some-in-loop-l.ensures in
    let level-8 : Sums 8 2 half (evens (evens (at c.take.new.a))) 2 c.butterfly.new.out = up {x = evens (evens (at c.take.new.a))} halves-8 (omega arith) odd-8-2-right dealt-8 level-4 made-8-4 c.butterfly.ensures in
    let dealt-16 : Dealt 2 2 (λ i. (evens (at c.take.new.a)) (2 * i + 1)) c.deal-in-loop-l-2.new.a = dealt (omega arith) c.deal-in-loop-l-2.ensures (λ i l. let e : 2 + i * 4 ≡ 2 * (2 * i + 1) = omega arith in ap (at c.take.new.a) e) in
    let made-16-4 : Made 4 8 (line_sum c.deal-in-loop-l-2.new.a 0 2 odd-16-2 16 1) c.some-in-loop-l-2.new.out = made-next 4 (omega arith) (made_none 8 _) c.some-in-loop-l-2.ensures in
    let made-16-8 : Made 8 8 (line_sum c.deal-in-loop-l-2.new.a 0 2 odd-16-2 16 1) c.some-in-loop-l-3.new.out = made-next 8 (omega arith) made-16-4 c.some-in-loop-l-3.ensures in
    (sums-small (omega arith) level-8, (made-small made-16-8, (omega arith, (omega arith, omega arith))))

pub some-requires-in-loop-l-4 : goal.some-requires-in-loop-l-4
some-requires-in-loop-l-4 c =
    let taken : c.loop-l.l < 8 = omega arith in
    let gathered-8 : Gathered 8 8 (across c.args.m.now 8 c.args.apart c.loop-l.l) c.take.new.a = group-next c.requires.0 0 c.loop-l.l taken _ (omega arith) (omega arith) (omega arith) (gather_none 8 _) c.take.ensures in
    let half : ℤ = to_z w32 (of_z w32 c.args.half) in
    let half-is : half ≡ c.args.half = to_z-of_z w32 c.args.half c.ranges.half in
    let small : nat_abs half ≤ 1000000 = subst (λ (z : ℤ). nat_abs z ≤ 1000000) (sym half-is) c.requires.0.small in
    let dealt-2 : Dealt 1 2 (evens (evens (evens (evens (at c.take.new.a))))) c.deal.new.a = dealt (omega arith) c.deal.ensures (λ i l. let e : 0 + i * 16 ≡ 2 * (2 * (2 * (2 * (i)))) = omega arith in ap (at c.take.new.a) e) in
    let made-2-2 : Made 2 2 (line_sum c.deal.new.a 0 2 first-2-2 4 1) c.some.new.out = made-next 2 (omega arith) (made_none 2 _) c.some.ensures in
    let level-2 : Sums 2 1 half (evens (evens (evens (evens (at c.take.new.a))))) 1 c.lift.new.e = lowest small first-2-2-right dealt-2 made-2-2 c.lift.ensures in
    let level-4 : Sums 4 1 half (evens (evens (evens (at c.take.new.a)))) 1 c.mirror.new.out = mirrored {x = evens (evens (evens (at c.take.new.a)))} halves-4 (omega arith) level-2 c.mirror.ensures in
    let dealt-8 : Dealt 1 2 (λ i. (evens (evens (at c.take.new.a))) (2 * i + 1)) c.deal-in-loop-l.new.a = dealt (omega arith) c.deal-in-loop-l.ensures (λ i l. let e : 4 + i * 8 ≡ 2 * (2 * (2 * i + 1)) = omega arith in ap (at c.take.new.a) e) in
    let made-8-4 : Made 4 4 (line_sum c.deal-in-loop-l.new.a 0 2 odd-8-2 8 1) c.some-in-loop-l.new.out = made-next 4 (omega arith) (made_none 4 _) c.some-in-loop-l.ensures in
    let level-8 : Sums 8 2 half (evens (evens (at c.take.new.a))) 2 c.butterfly.new.out = up {x = evens (evens (at c.take.new.a))} halves-8 (omega arith) odd-8-2-right dealt-8 level-4 made-8-4 c.butterfly.ensures in
    let dealt-16 : Dealt 2 2 (λ i. (evens (at c.take.new.a)) (2 * i + 1)) c.deal-in-loop-l-2.new.a = dealt (omega arith) c.deal-in-loop-l-2.ensures (λ i l. let e : 2 + i * 4 ≡ 2 * (2 * i + 1) = omega arith in ap (at c.take.new.a) e) in
    let made-16-4 : Made 4 8 (line_sum c.deal-in-loop-l-2.new.a 0 2 odd-16-2 16 1) c.some-in-loop-l-2.new.out = made-next 4 (omega arith) (made_none 8 _) c.some-in-loop-l-2.ensures in
    let made-16-8 : Made 8 8 (line_sum c.deal-in-loop-l-2.new.a 0 2 odd-16-2 16 1) c.some-in-loop-l-3.new.out = made-next 8 (omega arith) made-16-4 c.some-in-loop-l-3.ensures in
    let level-16 : Sums 16 4 half (evens (at c.take.new.a)) 3 c.butterfly-in-loop-l.new.out = up {x = evens (at c.take.new.a)} halves-16 (omega arith) odd-16-2-right dealt-16 level-8 made-16-8 c.butterfly-in-loop-l.ensures in
    let dealt-32 : Dealt 4 4 (λ i. (at c.take.new.a) (2 * i + 1)) c.deal-in-loop-l-3.new.a = dealt (omega arith) c.deal-in-loop-l-3.ensures (λ i l. let e : 1 + i * 2 ≡ 2 * i + 1 = omega arith in ap (at c.take.new.a) e) in
    (weighed odd-32-4-right dealt-32 4 (omega arith), (omega arith, omega arith))

pub some-requires-in-loop-l-5 : goal.some-requires-in-loop-l-5
some-requires-in-loop-l-5 c =
    let taken : c.loop-l.l < 8 = omega arith in
    let gathered-8 : Gathered 8 8 (across c.args.m.now 8 c.args.apart c.loop-l.l) c.take.new.a = group-next c.requires.0 0 c.loop-l.l taken _ (omega arith) (omega arith) (omega arith) (gather_none 8 _) c.take.ensures in
    let half : ℤ = to_z w32 (of_z w32 c.args.half) in
    let half-is : half ≡ c.args.half = to_z-of_z w32 c.args.half c.ranges.half in
    let small : nat_abs half ≤ 1000000 = subst (λ (z : ℤ). nat_abs z ≤ 1000000) (sym half-is) c.requires.0.small in
    let dealt-2 : Dealt 1 2 (evens (evens (evens (evens (at c.take.new.a))))) c.deal.new.a = dealt (omega arith) c.deal.ensures (λ i l. let e : 0 + i * 16 ≡ 2 * (2 * (2 * (2 * (i)))) = omega arith in ap (at c.take.new.a) e) in
    let made-2-2 : Made 2 2 (line_sum c.deal.new.a 0 2 first-2-2 4 1) c.some.new.out = made-next 2 (omega arith) (made_none 2 _) c.some.ensures in
    let level-2 : Sums 2 1 half (evens (evens (evens (evens (at c.take.new.a))))) 1 c.lift.new.e = lowest small first-2-2-right dealt-2 made-2-2 c.lift.ensures in
    let level-4 : Sums 4 1 half (evens (evens (evens (at c.take.new.a)))) 1 c.mirror.new.out = mirrored {x = evens (evens (evens (at c.take.new.a)))} halves-4 (omega arith) level-2 c.mirror.ensures in
    let dealt-8 : Dealt 1 2 (λ i. (evens (evens (at c.take.new.a))) (2 * i + 1)) c.deal-in-loop-l.new.a = dealt (omega arith) c.deal-in-loop-l.ensures (λ i l. let e : 4 + i * 8 ≡ 2 * (2 * (2 * i + 1)) = omega arith in ap (at c.take.new.a) e) in
    let made-8-4 : Made 4 4 (line_sum c.deal-in-loop-l.new.a 0 2 odd-8-2 8 1) c.some-in-loop-l.new.out = made-next 4 (omega arith) (made_none 4 _) c.some-in-loop-l.ensures in
    let level-8 : Sums 8 2 half (evens (evens (at c.take.new.a))) 2 c.butterfly.new.out = up {x = evens (evens (at c.take.new.a))} halves-8 (omega arith) odd-8-2-right dealt-8 level-4 made-8-4 c.butterfly.ensures in
    let dealt-16 : Dealt 2 2 (λ i. (evens (at c.take.new.a)) (2 * i + 1)) c.deal-in-loop-l-2.new.a = dealt (omega arith) c.deal-in-loop-l-2.ensures (λ i l. let e : 2 + i * 4 ≡ 2 * (2 * i + 1) = omega arith in ap (at c.take.new.a) e) in
    let made-16-4 : Made 4 8 (line_sum c.deal-in-loop-l-2.new.a 0 2 odd-16-2 16 1) c.some-in-loop-l-2.new.out = made-next 4 (omega arith) (made_none 8 _) c.some-in-loop-l-2.ensures in
    let made-16-8 : Made 8 8 (line_sum c.deal-in-loop-l-2.new.a 0 2 odd-16-2 16 1) c.some-in-loop-l-3.new.out = made-next 8 (omega arith) made-16-4 c.some-in-loop-l-3.ensures in
    let level-16 : Sums 16 4 half (evens (at c.take.new.a)) 3 c.butterfly-in-loop-l.new.out = up {x = evens (at c.take.new.a)} halves-16 (omega arith) odd-16-2-right dealt-16 level-8 made-16-8 c.butterfly-in-loop-l.ensures in
    let dealt-32 : Dealt 4 4 (λ i. (at c.take.new.a) (2 * i + 1)) c.deal-in-loop-l-3.new.a = dealt (omega arith) c.deal-in-loop-l-3.ensures (λ i l. let e : 1 + i * 2 ≡ 2 * i + 1 = omega arith in ap (at c.take.new.a) e) in
    let made-32-4 : Made 4 16 (line_sum c.deal-in-loop-l-3.new.a 0 2 odd-32-4 32 2) c.some-in-loop-l-4.new.out = made-next 4 (omega arith) (made_none 16 _) c.some-in-loop-l-4.ensures in
    (weighed odd-32-4-right dealt-32 8 (omega arith), (omega arith, omega (arith, made-32-4.long)))

pub some-requires-in-loop-l-6 : goal.some-requires-in-loop-l-6
some-requires-in-loop-l-6 c =
    let taken : c.loop-l.l < 8 = omega arith in
    let gathered-8 : Gathered 8 8 (across c.args.m.now 8 c.args.apart c.loop-l.l) c.take.new.a = group-next c.requires.0 0 c.loop-l.l taken _ (omega arith) (omega arith) (omega arith) (gather_none 8 _) c.take.ensures in
    let half : ℤ = to_z w32 (of_z w32 c.args.half) in
    let half-is : half ≡ c.args.half = to_z-of_z w32 c.args.half c.ranges.half in
    let small : nat_abs half ≤ 1000000 = subst (λ (z : ℤ). nat_abs z ≤ 1000000) (sym half-is) c.requires.0.small in
    let dealt-2 : Dealt 1 2 (evens (evens (evens (evens (at c.take.new.a))))) c.deal.new.a = dealt (omega arith) c.deal.ensures (λ i l. let e : 0 + i * 16 ≡ 2 * (2 * (2 * (2 * (i)))) = omega arith in ap (at c.take.new.a) e) in
    let made-2-2 : Made 2 2 (line_sum c.deal.new.a 0 2 first-2-2 4 1) c.some.new.out = made-next 2 (omega arith) (made_none 2 _) c.some.ensures in
    let level-2 : Sums 2 1 half (evens (evens (evens (evens (at c.take.new.a))))) 1 c.lift.new.e = lowest small first-2-2-right dealt-2 made-2-2 c.lift.ensures in
    let level-4 : Sums 4 1 half (evens (evens (evens (at c.take.new.a)))) 1 c.mirror.new.out = mirrored {x = evens (evens (evens (at c.take.new.a)))} halves-4 (omega arith) level-2 c.mirror.ensures in
    let dealt-8 : Dealt 1 2 (λ i. (evens (evens (at c.take.new.a))) (2 * i + 1)) c.deal-in-loop-l.new.a = dealt (omega arith) c.deal-in-loop-l.ensures (λ i l. let e : 4 + i * 8 ≡ 2 * (2 * (2 * i + 1)) = omega arith in ap (at c.take.new.a) e) in
    let made-8-4 : Made 4 4 (line_sum c.deal-in-loop-l.new.a 0 2 odd-8-2 8 1) c.some-in-loop-l.new.out = made-next 4 (omega arith) (made_none 4 _) c.some-in-loop-l.ensures in
    let level-8 : Sums 8 2 half (evens (evens (at c.take.new.a))) 2 c.butterfly.new.out = up {x = evens (evens (at c.take.new.a))} halves-8 (omega arith) odd-8-2-right dealt-8 level-4 made-8-4 c.butterfly.ensures in
    let dealt-16 : Dealt 2 2 (λ i. (evens (at c.take.new.a)) (2 * i + 1)) c.deal-in-loop-l-2.new.a = dealt (omega arith) c.deal-in-loop-l-2.ensures (λ i l. let e : 2 + i * 4 ≡ 2 * (2 * i + 1) = omega arith in ap (at c.take.new.a) e) in
    let made-16-4 : Made 4 8 (line_sum c.deal-in-loop-l-2.new.a 0 2 odd-16-2 16 1) c.some-in-loop-l-2.new.out = made-next 4 (omega arith) (made_none 8 _) c.some-in-loop-l-2.ensures in
    let made-16-8 : Made 8 8 (line_sum c.deal-in-loop-l-2.new.a 0 2 odd-16-2 16 1) c.some-in-loop-l-3.new.out = made-next 8 (omega arith) made-16-4 c.some-in-loop-l-3.ensures in
    let level-16 : Sums 16 4 half (evens (at c.take.new.a)) 3 c.butterfly-in-loop-l.new.out = up {x = evens (at c.take.new.a)} halves-16 (omega arith) odd-16-2-right dealt-16 level-8 made-16-8 c.butterfly-in-loop-l.ensures in
    let dealt-32 : Dealt 4 4 (λ i. (at c.take.new.a) (2 * i + 1)) c.deal-in-loop-l-3.new.a = dealt (omega arith) c.deal-in-loop-l-3.ensures (λ i l. let e : 1 + i * 2 ≡ 2 * i + 1 = omega arith in ap (at c.take.new.a) e) in
    let made-32-4 : Made 4 16 (line_sum c.deal-in-loop-l-3.new.a 0 2 odd-32-4 32 2) c.some-in-loop-l-4.new.out = made-next 4 (omega arith) (made_none 16 _) c.some-in-loop-l-4.ensures in
    let made-32-8 : Made 8 16 (line_sum c.deal-in-loop-l-3.new.a 0 2 odd-32-4 32 2) c.some-in-loop-l-5.new.out = made-next 8 (omega arith) made-32-4 c.some-in-loop-l-5.ensures in
    (weighed odd-32-4-right dealt-32 12 (omega arith), (omega arith, omega (arith, made-32-8.long)))

pub some-requires-in-loop-l-7 : goal.some-requires-in-loop-l-7
some-requires-in-loop-l-7 c =
    let taken : c.loop-l.l < 8 = omega arith in
    let gathered-8 : Gathered 8 8 (across c.args.m.now 8 c.args.apart c.loop-l.l) c.take.new.a = group-next c.requires.0 0 c.loop-l.l taken _ (omega arith) (omega arith) (omega arith) (gather_none 8 _) c.take.ensures in
    let half : ℤ = to_z w32 (of_z w32 c.args.half) in
    let half-is : half ≡ c.args.half = to_z-of_z w32 c.args.half c.ranges.half in
    let small : nat_abs half ≤ 1000000 = subst (λ (z : ℤ). nat_abs z ≤ 1000000) (sym half-is) c.requires.0.small in
    let dealt-2 : Dealt 1 2 (evens (evens (evens (evens (at c.take.new.a))))) c.deal.new.a = dealt (omega arith) c.deal.ensures (λ i l. let e : 0 + i * 16 ≡ 2 * (2 * (2 * (2 * (i)))) = omega arith in ap (at c.take.new.a) e) in
    let made-2-2 : Made 2 2 (line_sum c.deal.new.a 0 2 first-2-2 4 1) c.some.new.out = made-next 2 (omega arith) (made_none 2 _) c.some.ensures in
    let level-2 : Sums 2 1 half (evens (evens (evens (evens (at c.take.new.a))))) 1 c.lift.new.e = lowest small first-2-2-right dealt-2 made-2-2 c.lift.ensures in
    let level-4 : Sums 4 1 half (evens (evens (evens (at c.take.new.a)))) 1 c.mirror.new.out = mirrored {x = evens (evens (evens (at c.take.new.a)))} halves-4 (omega arith) level-2 c.mirror.ensures in
    let dealt-8 : Dealt 1 2 (λ i. (evens (evens (at c.take.new.a))) (2 * i + 1)) c.deal-in-loop-l.new.a = dealt (omega arith) c.deal-in-loop-l.ensures (λ i l. let e : 4 + i * 8 ≡ 2 * (2 * (2 * i + 1)) = omega arith in ap (at c.take.new.a) e) in
    let made-8-4 : Made 4 4 (line_sum c.deal-in-loop-l.new.a 0 2 odd-8-2 8 1) c.some-in-loop-l.new.out = made-next 4 (omega arith) (made_none 4 _) c.some-in-loop-l.ensures in
    let level-8 : Sums 8 2 half (evens (evens (at c.take.new.a))) 2 c.butterfly.new.out = up {x = evens (evens (at c.take.new.a))} halves-8 (omega arith) odd-8-2-right dealt-8 level-4 made-8-4 c.butterfly.ensures in
    let dealt-16 : Dealt 2 2 (λ i. (evens (at c.take.new.a)) (2 * i + 1)) c.deal-in-loop-l-2.new.a = dealt (omega arith) c.deal-in-loop-l-2.ensures (λ i l. let e : 2 + i * 4 ≡ 2 * (2 * i + 1) = omega arith in ap (at c.take.new.a) e) in
    let made-16-4 : Made 4 8 (line_sum c.deal-in-loop-l-2.new.a 0 2 odd-16-2 16 1) c.some-in-loop-l-2.new.out = made-next 4 (omega arith) (made_none 8 _) c.some-in-loop-l-2.ensures in
    let made-16-8 : Made 8 8 (line_sum c.deal-in-loop-l-2.new.a 0 2 odd-16-2 16 1) c.some-in-loop-l-3.new.out = made-next 8 (omega arith) made-16-4 c.some-in-loop-l-3.ensures in
    let level-16 : Sums 16 4 half (evens (at c.take.new.a)) 3 c.butterfly-in-loop-l.new.out = up {x = evens (at c.take.new.a)} halves-16 (omega arith) odd-16-2-right dealt-16 level-8 made-16-8 c.butterfly-in-loop-l.ensures in
    let dealt-32 : Dealt 4 4 (λ i. (at c.take.new.a) (2 * i + 1)) c.deal-in-loop-l-3.new.a = dealt (omega arith) c.deal-in-loop-l-3.ensures (λ i l. let e : 1 + i * 2 ≡ 2 * i + 1 = omega arith in ap (at c.take.new.a) e) in
    let made-32-4 : Made 4 16 (line_sum c.deal-in-loop-l-3.new.a 0 2 odd-32-4 32 2) c.some-in-loop-l-4.new.out = made-next 4 (omega arith) (made_none 16 _) c.some-in-loop-l-4.ensures in
    let made-32-8 : Made 8 16 (line_sum c.deal-in-loop-l-3.new.a 0 2 odd-32-4 32 2) c.some-in-loop-l-5.new.out = made-next 8 (omega arith) made-32-4 c.some-in-loop-l-5.ensures in
    let made-32-12 : Made 12 16 (line_sum c.deal-in-loop-l-3.new.a 0 2 odd-32-4 32 2) c.some-in-loop-l-6.new.out = made-next 12 (omega arith) made-32-8 c.some-in-loop-l-6.ensures in
    (weighed odd-32-4-right dealt-32 16 (omega arith), (omega arith, omega (arith, made-32-12.long)))

pub butterfly-requires-in-loop-l-2 : goal.butterfly-requires-in-loop-l-2
butterfly-requires-in-loop-l-2 c =
    let taken : c.loop-l.l < 8 = omega arith in
    let gathered-8 : Gathered 8 8 (across c.args.m.now 8 c.args.apart c.loop-l.l) c.take.new.a = group-next c.requires.0 0 c.loop-l.l taken _ (omega arith) (omega arith) (omega arith) (gather_none 8 _) c.take.ensures in
    let half : ℤ = to_z w32 (of_z w32 c.args.half) in
    let half-is : half ≡ c.args.half = to_z-of_z w32 c.args.half c.ranges.half in
    let small : nat_abs half ≤ 1000000 = subst (λ (z : ℤ). nat_abs z ≤ 1000000) (sym half-is) c.requires.0.small in
    let dealt-2 : Dealt 1 2 (evens (evens (evens (evens (at c.take.new.a))))) c.deal.new.a = dealt (omega arith) c.deal.ensures (λ i l. let e : 0 + i * 16 ≡ 2 * (2 * (2 * (2 * (i)))) = omega arith in ap (at c.take.new.a) e) in
    let made-2-2 : Made 2 2 (line_sum c.deal.new.a 0 2 first-2-2 4 1) c.some.new.out = made-next 2 (omega arith) (made_none 2 _) c.some.ensures in
    let level-2 : Sums 2 1 half (evens (evens (evens (evens (at c.take.new.a))))) 1 c.lift.new.e = lowest small first-2-2-right dealt-2 made-2-2 c.lift.ensures in
    let level-4 : Sums 4 1 half (evens (evens (evens (at c.take.new.a)))) 1 c.mirror.new.out = mirrored {x = evens (evens (evens (at c.take.new.a)))} halves-4 (omega arith) level-2 c.mirror.ensures in
    let dealt-8 : Dealt 1 2 (λ i. (evens (evens (at c.take.new.a))) (2 * i + 1)) c.deal-in-loop-l.new.a = dealt (omega arith) c.deal-in-loop-l.ensures (λ i l. let e : 4 + i * 8 ≡ 2 * (2 * (2 * i + 1)) = omega arith in ap (at c.take.new.a) e) in
    let made-8-4 : Made 4 4 (line_sum c.deal-in-loop-l.new.a 0 2 odd-8-2 8 1) c.some-in-loop-l.new.out = made-next 4 (omega arith) (made_none 4 _) c.some-in-loop-l.ensures in
    let level-8 : Sums 8 2 half (evens (evens (at c.take.new.a))) 2 c.butterfly.new.out = up {x = evens (evens (at c.take.new.a))} halves-8 (omega arith) odd-8-2-right dealt-8 level-4 made-8-4 c.butterfly.ensures in
    let dealt-16 : Dealt 2 2 (λ i. (evens (at c.take.new.a)) (2 * i + 1)) c.deal-in-loop-l-2.new.a = dealt (omega arith) c.deal-in-loop-l-2.ensures (λ i l. let e : 2 + i * 4 ≡ 2 * (2 * i + 1) = omega arith in ap (at c.take.new.a) e) in
    let made-16-4 : Made 4 8 (line_sum c.deal-in-loop-l-2.new.a 0 2 odd-16-2 16 1) c.some-in-loop-l-2.new.out = made-next 4 (omega arith) (made_none 8 _) c.some-in-loop-l-2.ensures in
    let made-16-8 : Made 8 8 (line_sum c.deal-in-loop-l-2.new.a 0 2 odd-16-2 16 1) c.some-in-loop-l-3.new.out = made-next 8 (omega arith) made-16-4 c.some-in-loop-l-3.ensures in
    let level-16 : Sums 16 4 half (evens (at c.take.new.a)) 3 c.butterfly-in-loop-l.new.out = up {x = evens (at c.take.new.a)} halves-16 (omega arith) odd-16-2-right dealt-16 level-8 made-16-8 c.butterfly-in-loop-l.ensures in
    let dealt-32 : Dealt 4 4 (λ i. (at c.take.new.a) (2 * i + 1)) c.deal-in-loop-l-3.new.a = dealt (omega arith) c.deal-in-loop-l-3.ensures (λ i l. let e : 1 + i * 2 ≡ 2 * i + 1 = omega arith in ap (at c.take.new.a) e) in
    let made-32-4 : Made 4 16 (line_sum c.deal-in-loop-l-3.new.a 0 2 odd-32-4 32 2) c.some-in-loop-l-4.new.out = made-next 4 (omega arith) (made_none 16 _) c.some-in-loop-l-4.ensures in
    let made-32-8 : Made 8 16 (line_sum c.deal-in-loop-l-3.new.a 0 2 odd-32-4 32 2) c.some-in-loop-l-5.new.out = made-next 8 (omega arith) made-32-4 c.some-in-loop-l-5.ensures in
    let made-32-12 : Made 12 16 (line_sum c.deal-in-loop-l-3.new.a 0 2 odd-32-4 32 2) c.some-in-loop-l-6.new.out = made-next 12 (omega arith) made-32-8 c.some-in-loop-l-6.ensures in
    let made-32-16 : Made 16 16 (line_sum c.deal-in-loop-l-3.new.a 0 2 odd-32-4 32 2) c.some-in-loop-l-7.new.out = made-next 16 (omega arith) made-32-12 c.some-in-loop-l-7.ensures in
    (sums-small (omega arith) level-16, (made-small made-32-16, (omega arith, (omega arith, omega arith))))

pub loop-l-preserved : goal.loop-l-preserved
loop-l-preserved c =
    let taken : c.loop-l.l < 8 = omega arith in
    let gathered-8 : Gathered 8 8 (across c.args.m.now 8 c.args.apart c.loop-l.l) c.take.new.a = group-next c.requires.0 0 c.loop-l.l taken _ (omega arith) (omega arith) (omega arith) (gather_none 8 _) c.take.ensures in
    let half : ℤ = to_z w32 (of_z w32 c.args.half) in
    let half-is : half ≡ c.args.half = to_z-of_z w32 c.args.half c.ranges.half in
    let small : nat_abs half ≤ 1000000 = subst (λ (z : ℤ). nat_abs z ≤ 1000000) (sym half-is) c.requires.0.small in
    let dealt-2 : Dealt 1 2 (evens (evens (evens (evens (at c.take.new.a))))) c.deal.new.a = dealt (omega arith) c.deal.ensures (λ i l. let e : 0 + i * 16 ≡ 2 * (2 * (2 * (2 * (i)))) = omega arith in ap (at c.take.new.a) e) in
    let made-2-2 : Made 2 2 (line_sum c.deal.new.a 0 2 first-2-2 4 1) c.some.new.out = made-next 2 (omega arith) (made_none 2 _) c.some.ensures in
    let level-2 : Sums 2 1 half (evens (evens (evens (evens (at c.take.new.a))))) 1 c.lift.new.e = lowest small first-2-2-right dealt-2 made-2-2 c.lift.ensures in
    let level-4 : Sums 4 1 half (evens (evens (evens (at c.take.new.a)))) 1 c.mirror.new.out = mirrored {x = evens (evens (evens (at c.take.new.a)))} halves-4 (omega arith) level-2 c.mirror.ensures in
    let dealt-8 : Dealt 1 2 (λ i. (evens (evens (at c.take.new.a))) (2 * i + 1)) c.deal-in-loop-l.new.a = dealt (omega arith) c.deal-in-loop-l.ensures (λ i l. let e : 4 + i * 8 ≡ 2 * (2 * (2 * i + 1)) = omega arith in ap (at c.take.new.a) e) in
    let made-8-4 : Made 4 4 (line_sum c.deal-in-loop-l.new.a 0 2 odd-8-2 8 1) c.some-in-loop-l.new.out = made-next 4 (omega arith) (made_none 4 _) c.some-in-loop-l.ensures in
    let level-8 : Sums 8 2 half (evens (evens (at c.take.new.a))) 2 c.butterfly.new.out = up {x = evens (evens (at c.take.new.a))} halves-8 (omega arith) odd-8-2-right dealt-8 level-4 made-8-4 c.butterfly.ensures in
    let dealt-16 : Dealt 2 2 (λ i. (evens (at c.take.new.a)) (2 * i + 1)) c.deal-in-loop-l-2.new.a = dealt (omega arith) c.deal-in-loop-l-2.ensures (λ i l. let e : 2 + i * 4 ≡ 2 * (2 * i + 1) = omega arith in ap (at c.take.new.a) e) in
    let made-16-4 : Made 4 8 (line_sum c.deal-in-loop-l-2.new.a 0 2 odd-16-2 16 1) c.some-in-loop-l-2.new.out = made-next 4 (omega arith) (made_none 8 _) c.some-in-loop-l-2.ensures in
    let made-16-8 : Made 8 8 (line_sum c.deal-in-loop-l-2.new.a 0 2 odd-16-2 16 1) c.some-in-loop-l-3.new.out = made-next 8 (omega arith) made-16-4 c.some-in-loop-l-3.ensures in
    let level-16 : Sums 16 4 half (evens (at c.take.new.a)) 3 c.butterfly-in-loop-l.new.out = up {x = evens (at c.take.new.a)} halves-16 (omega arith) odd-16-2-right dealt-16 level-8 made-16-8 c.butterfly-in-loop-l.ensures in
    let dealt-32 : Dealt 4 4 (λ i. (at c.take.new.a) (2 * i + 1)) c.deal-in-loop-l-3.new.a = dealt (omega arith) c.deal-in-loop-l-3.ensures (λ i l. let e : 1 + i * 2 ≡ 2 * i + 1 = omega arith in ap (at c.take.new.a) e) in
    let made-32-4 : Made 4 16 (line_sum c.deal-in-loop-l-3.new.a 0 2 odd-32-4 32 2) c.some-in-loop-l-4.new.out = made-next 4 (omega arith) (made_none 16 _) c.some-in-loop-l-4.ensures in
    let made-32-8 : Made 8 16 (line_sum c.deal-in-loop-l-3.new.a 0 2 odd-32-4 32 2) c.some-in-loop-l-5.new.out = made-next 8 (omega arith) made-32-4 c.some-in-loop-l-5.ensures in
    let made-32-12 : Made 12 16 (line_sum c.deal-in-loop-l-3.new.a 0 2 odd-32-4 32 2) c.some-in-loop-l-6.new.out = made-next 12 (omega arith) made-32-8 c.some-in-loop-l-6.ensures in
    let made-32-16 : Made 16 16 (line_sum c.deal-in-loop-l-3.new.a 0 2 odd-32-4 32 2) c.some-in-loop-l-7.new.out = made-next 16 (omega arith) made-32-12 c.some-in-loop-l-7.ensures in
    let level-32 : Sums 32 8 half (at c.take.new.a) 4 c.butterfly-in-loop-l-2.new.out = up {x = at c.take.new.a} halves-32 (omega arith) odd-32-4-right dealt-32 level-16 made-32-16 c.butterfly-in-loop-l-2.ensures in
    let row-0 : WroteFrom 0 (8 * (c.loop-l.l + 1)) c.round.new.r (replicate 64 (pos 0)) (tiled 8 (λ j y. shifted half c.args.shift (rows_sum 32 8 8 c.args.apart c.args.m.now j y)) 0) = round-next c.args.shift 8 c.args.apart c.loop-l.l c.args.m.now gathered-8 level-32 0 (omega arith) c.loop-l.invariant.0 c.round.ensures in
    let row-8 : WroteFrom 0 (8 * (c.loop-l.l + 1)) c.round-in-loop-l.new.r (replicate 64 (pos 0)) (tiled 8 (λ j y. shifted half c.args.shift (rows_sum 32 8 8 c.args.apart c.args.m.now j y)) 8) = round-next c.args.shift 8 c.args.apart c.loop-l.l c.args.m.now gathered-8 level-32 8 (omega arith) c.loop-l.invariant.1.0 c.round-in-loop-l.ensures in
    let row-16 : WroteFrom 0 (8 * (c.loop-l.l + 1)) c.round-in-loop-l-2.new.r (replicate 64 (pos 0)) (tiled 8 (λ j y. shifted half c.args.shift (rows_sum 32 8 8 c.args.apart c.args.m.now j y)) 16) = round-next c.args.shift 8 c.args.apart c.loop-l.l c.args.m.now gathered-8 level-32 16 (omega arith) c.loop-l.invariant.1.1.0 c.round-in-loop-l-2.ensures in
    let row-24 : WroteFrom 0 (8 * (c.loop-l.l + 1)) c.round-in-loop-l-3.new.r (replicate 64 (pos 0)) (tiled 8 (λ j y. shifted half c.args.shift (rows_sum 32 8 8 c.args.apart c.args.m.now j y)) 24) = round-next c.args.shift 8 c.args.apart c.loop-l.l c.args.m.now gathered-8 level-32 24 (omega arith) c.loop-l.invariant.1.1.1 c.round-in-loop-l-3.ensures in
    (row-0, (row-8, (row-16, row-24)))

pub returns : goal.returns
returns c =
    let half : ℤ = to_z w32 (of_z w32 c.args.half) in
    let half-is : half ≡ c.args.half = to_z-of_z w32 c.args.half c.ranges.half in
    let full : 8 * c.loop-l.l ≡ 64 = omega arith in
    let columns-8 : Columns 8 8 32 (λ j y. shifted half c.args.shift (rows_sum 32 8 8 c.args.apart c.args.m.now j y)) c.spread.new.r = columns-next (columns-none _ c.requires.1) (wrote-to 64 full c.loop-l.invariant.0) c.spread.ensures in
    let columns-16 : Columns 16 8 32 (λ j y. shifted half c.args.shift (rows_sum 32 8 8 c.args.apart c.args.m.now j y)) c.spread-2.new.r = columns-next columns-8 (wrote-to 64 full c.loop-l.invariant.1.0) c.spread-2.ensures in
    let columns-24 : Columns 24 8 32 (λ j y. shifted half c.args.shift (rows_sum 32 8 8 c.args.apart c.args.m.now j y)) c.spread-3.new.r = columns-next columns-16 (wrote-to 64 full c.loop-l.invariant.1.1.0) c.spread-3.ensures in
    let columns-32 : Columns 32 8 32 (λ j y. shifted half c.args.shift (rows_sum 32 8 8 c.args.apart c.args.m.now j y)) c.spread-4.new.r = columns-next columns-24 (wrote-to 64 full c.loop-l.invariant.1.1.1) c.spread-4.ensures in
    columns-all (omega arith) columns-32 ∙ ap (λ (z : ℤ). block 32 8 (λ j y. shifted z c.args.shift (rows_sum 32 8 8 c.args.apart c.args.m.now j y))) half-is
