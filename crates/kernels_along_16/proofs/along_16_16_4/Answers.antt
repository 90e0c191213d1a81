-- Made by crates/kernel_levels/make; do not edit. `along_16_16_4`: up the levels from 2 points to 16, then into rows. Assumes nothing.
use Rattle.std.proofs.Common.{◌≡◌, sym, ap, ◌∙◌, subst, ◌+◌, ◌*◌, ◌≤◌, ◌<◌, ℤ, pos, nat_abs, to_z, of_z, arith}
use mir.Syntax.{w32}
use mir.ValLaws.{to_z-of_z}
use lib.ListN.{replicate}
use Rattle.algebra.specs.Lists.{at, block}
use Rattle.product.specs.Product.{line_sum, shifted}
use Rattle.halves.specs.Halves.{evens}
use Rattle.halves.proofs.Halved.{halves-4, halves-8, halves-16}
use Rattle.kernel_steps.specs.Written.{WroteFrom}
use Rattle.kernel_steps.proofs.Writing.{wrote-to}
use Rattle.kernel_levels.specs.Kernels.{across, rows_sum}
use Rattle.kernel_levels.proofs.Levels.{Dealt, dealt, Gathered, gather_none, weighed, Made, made_none, made-next, made-small, Sums, sums-small, lowest, up}
use Rattle.kernel_levels.proofs.Across.{group-there, group-room, group-next, tiled, round-next, Columns, columns-none, columns-next, columns-all}
use Rattle.kernel_levels.proofs.Stored.{first-2-2, first-2-2-right, odd-16-8, odd-16-8-right, odd-4-2, odd-4-2-right, odd-8-4, odd-8-4-right}
use Rattle.kernels_along_16.proofs.along_16_16_4.Goals as goal

pub take-requires : goal.take-requires
take-requires c =
    let taken : c.loop-l.l < 4 = omega arith in
    (omega arith, λ i h. group-room c.requires.0 0 c.loop-l.l taken _ i (omega arith) (omega arith) (omega arith))

pub slice_bounds-take-count-in-loop-l : goal.slice_bounds-take-count-in-loop-l
slice_bounds-take-count-in-loop-l c =
    let taken : c.loop-l.l < 4 = omega arith in
    omega (arith, group-there c.requires.0 1 c.loop-l.l taken 0 (omega arith) (omega arith))

pub slice_bounds-take-start-in-loop-l : goal.slice_bounds-take-start-in-loop-l
slice_bounds-take-start-in-loop-l c =
    let taken : c.loop-l.l < 4 = omega arith in
    omega (arith, group-there c.requires.0 1 c.loop-l.l taken 0 (omega arith) (omega arith))

pub overflow_add-i8 : goal.overflow_add-i8
overflow_add-i8 c =
    let taken : c.loop-l.l < 4 = omega arith in
    omega (arith, group-there c.requires.0 1 c.loop-l.l taken 0 (omega arith) (omega arith))

pub offset_bounds-m-i8 : goal.offset_bounds-m-i8
offset_bounds-m-i8 c =
    let taken : c.loop-l.l < 4 = omega arith in
    omega (arith, group-there c.requires.0 1 c.loop-l.l taken 0 (omega arith) (omega arith))

pub take-requires-in-loop-l : goal.take-requires-in-loop-l
take-requires-in-loop-l c =
    let taken : c.loop-l.l < 4 = omega arith in
    let gathered-8 : Gathered 8 16 (across c.args.m.now 4 c.args.apart c.loop-l.l) c.take.new.a = group-next c.requires.0 0 c.loop-l.l taken _ (omega arith) (omega arith) (omega arith) (gather_none 16 _) c.take.ensures in
    (omega (arith, gathered-8.long), λ i h. group-room c.requires.0 1 c.loop-l.l taken _ i (omega arith) (omega arith) (omega arith))

pub butterfly-requires : goal.butterfly-requires
butterfly-requires c =
    let taken : c.loop-l.l < 4 = omega arith in
    let gathered-8 : Gathered 8 16 (across c.args.m.now 4 c.args.apart c.loop-l.l) c.take.new.a = group-next c.requires.0 0 c.loop-l.l taken _ (omega arith) (omega arith) (omega arith) (gather_none 16 _) c.take.ensures in
    let gathered-16 : Gathered 16 16 (across c.args.m.now 4 c.args.apart c.loop-l.l) c.take-in-loop-l.new.a = group-next c.requires.0 1 c.loop-l.l taken _ (omega arith) (omega arith) (omega arith) gathered-8 c.take-in-loop-l.ensures in
    let half : ℤ = to_z w32 (of_z w32 c.args.half) in
    let half-is : half ≡ c.args.half = to_z-of_z w32 c.args.half c.ranges.half in
    let small : nat_abs half ≤ 1000000 = subst (λ (z : ℤ). nat_abs z ≤ 1000000) (sym half-is) c.requires.0.small in
    let dealt-2 : Dealt 2 2 (evens (evens (evens (at c.take-in-loop-l.new.a)))) c.deal.new.a = dealt (omega arith) c.deal.ensures (λ i l. let e : 0 + i * 8 ≡ 2 * (2 * (2 * (i))) = omega arith in ap (at c.take-in-loop-l.new.a) e) in
    let made-2-2 : Made 2 2 (line_sum c.deal.new.a 0 2 first-2-2 4 1) c.some.new.out = made-next 2 (omega arith) (made_none 2 _) c.some.ensures in
    let level-2 : Sums 2 2 half (evens (evens (evens (at c.take-in-loop-l.new.a)))) 1 c.lift.new.e = lowest small first-2-2-right dealt-2 made-2-2 c.lift.ensures in
    let dealt-4 : Dealt 2 2 (λ i. (evens (evens (at c.take-in-loop-l.new.a))) (2 * i + 1)) c.deal-in-loop-l.new.a = dealt (omega arith) c.deal-in-loop-l.ensures (λ i l. let e : 4 + i * 8 ≡ 2 * (2 * (2 * i + 1)) = omega arith in ap (at c.take-in-loop-l.new.a) e) in
    let made-4-2 : Made 2 2 (line_sum c.deal-in-loop-l.new.a 0 2 odd-4-2 4 1) c.some-in-loop-l.new.out = made-next 2 (omega arith) (made_none 2 _) c.some-in-loop-l.ensures in
    (sums-small (omega arith) level-2, (made-small made-4-2, (omega arith, (omega arith, omega arith))))

pub butterfly-requires-in-loop-l : goal.butterfly-requires-in-loop-l
butterfly-requires-in-loop-l c =
    let taken : c.loop-l.l < 4 = omega arith in
    let gathered-8 : Gathered 8 16 (across c.args.m.now 4 c.args.apart c.loop-l.l) c.take.new.a = group-next c.requires.0 0 c.loop-l.l taken _ (omega arith) (omega arith) (omega arith) (gather_none 16 _) c.take.ensures in
    let gathered-16 : Gathered 16 16 (across c.args.m.now 4 c.args.apart c.loop-l.l) c.take-in-loop-l.new.a = group-next c.requires.0 1 c.loop-l.l taken _ (omega arith) (omega arith) (omega arith) gathered-8 c.take-in-loop-l.ensures in
    let half : ℤ = to_z w32 (of_z w32 c.args.half) in
    let half-is : half ≡ c.args.half = to_z-of_z w32 c.args.half c.ranges.half in
    let small : nat_abs half ≤ 1000000 = subst (λ (z : ℤ). nat_abs z ≤ 1000000) (sym half-is) c.requires.0.small in
    let dealt-2 : Dealt 2 2 (evens (evens (evens (at c.take-in-loop-l.new.a)))) c.deal.new.a = dealt (omega arith) c.deal.ensures (λ i l. let e : 0 + i * 8 ≡ 2 * (2 * (2 * (i))) = omega arith in ap (at c.take-in-loop-l.new.a) e) in
    let made-2-2 : Made 2 2 (line_sum c.deal.new.a 0 2 first-2-2 4 1) c.some.new.out = made-next 2 (omega arith) (made_none 2 _) c.some.ensures in
    let level-2 : Sums 2 2 half (evens (evens (evens (at c.take-in-loop-l.new.a)))) 1 c.lift.new.e = lowest small first-2-2-right dealt-2 made-2-2 c.lift.ensures in
    let dealt-4 : Dealt 2 2 (λ i. (evens (evens (at c.take-in-loop-l.new.a))) (2 * i + 1)) c.deal-in-loop-l.new.a = dealt (omega arith) c.deal-in-loop-l.ensures (λ i l. let e : 4 + i * 8 ≡ 2 * (2 * (2 * i + 1)) = omega arith in ap (at c.take-in-loop-l.new.a) e) in
    let made-4-2 : Made 2 2 (line_sum c.deal-in-loop-l.new.a 0 2 odd-4-2 4 1) c.some-in-loop-l.new.out = made-next 2 (omega arith) (made_none 2 _) c.some-in-loop-l.ensures in
    let level-4 : Sums 4 4 half (evens (evens (at c.take-in-loop-l.new.a))) 2 c.butterfly.new.out = up {x = evens (evens (at c.take-in-loop-l.new.a))} halves-4 (omega arith) odd-4-2-right dealt-4 level-2 made-4-2 c.butterfly.ensures in
    let dealt-8 : Dealt 4 4 (λ i. (evens (at c.take-in-loop-l.new.a)) (2 * i + 1)) c.deal-in-loop-l-2.new.a = dealt (omega arith) c.deal-in-loop-l-2.ensures (λ i l. let e : 2 + i * 4 ≡ 2 * (2 * i + 1) = omega arith in ap (at c.take-in-loop-l.new.a) e) in
    let made-8-4 : Made 4 4 (line_sum c.deal-in-loop-l-2.new.a 0 2 odd-8-4 8 2) c.some-in-loop-l-2.new.out = made-next 4 (omega arith) (made_none 4 _) c.some-in-loop-l-2.ensures in
    (sums-small (omega arith) level-4, (made-small made-8-4, (omega arith, (omega arith, omega arith))))

pub some-requires-in-loop-l-3 : goal.some-requires-in-loop-l-3
some-requires-in-loop-l-3 c =
    let taken : c.loop-l.l < 4 = omega arith in
    let gathered-8 : Gathered 8 16 (across c.args.m.now 4 c.args.apart c.loop-l.l) c.take.new.a = group-next c.requires.0 0 c.loop-l.l taken _ (omega arith) (omega arith) (omega arith) (gather_none 16 _) c.take.ensures in
    let gathered-16 : Gathered 16 16 (across c.args.m.now 4 c.args.apart c.loop-l.l) c.take-in-loop-l.new.a = group-next c.requires.0 1 c.loop-l.l taken _ (omega arith) (omega arith) (omega arith) gathered-8 c.take-in-loop-l.ensures in
    let half : ℤ = to_z w32 (of_z w32 c.args.half) in
    let half-is : half ≡ c.args.half = to_z-of_z w32 c.args.half c.ranges.half in
    let small : nat_abs half ≤ 1000000 = subst (λ (z : ℤ). nat_abs z ≤ 1000000) (sym half-is) c.requires.0.small in
    let dealt-2 : Dealt 2 2 (evens (evens (evens (at c.take-in-loop-l.new.a)))) c.deal.new.a = dealt (omega arith) c.deal.ensures (λ i l. let e : 0 + i * 8 ≡ 2 * (2 * (2 * (i))) = omega arith in ap (at c.take-in-loop-l.new.a) e) in
    let made-2-2 : Made 2 2 (line_sum c.deal.new.a 0 2 first-2-2 4 1) c.some.new.out = made-next 2 (omega arith) (made_none 2 _) c.some.ensures in
    let level-2 : Sums 2 2 half (evens (evens (evens (at c.take-in-loop-l.new.a)))) 1 c.lift.new.e = lowest small first-2-2-right dealt-2 made-2-2 c.lift.ensures in
    let dealt-4 : Dealt 2 2 (λ i. (evens (evens (at c.take-in-loop-l.new.a))) (2 * i + 1)) c.deal-in-loop-l.new.a = dealt (omega arith) c.deal-in-loop-l.ensures (λ i l. let e : 4 + i * 8 ≡ 2 * (2 * (2 * i + 1)) = omega arith in ap (at c.take-in-loop-l.new.a) e) in
    let made-4-2 : Made 2 2 (line_sum c.deal-in-loop-l.new.a 0 2 odd-4-2 4 1) c.some-in-loop-l.new.out = made-next 2 (omega arith) (made_none 2 _) c.some-in-loop-l.ensures in
    let level-4 : Sums 4 4 half (evens (evens (at c.take-in-loop-l.new.a))) 2 c.butterfly.new.out = up {x = evens (evens (at c.take-in-loop-l.new.a))} halves-4 (omega arith) odd-4-2-right dealt-4 level-2 made-4-2 c.butterfly.ensures in
    let dealt-8 : Dealt 4 4 (λ i. (evens (at c.take-in-loop-l.new.a)) (2 * i + 1)) c.deal-in-loop-l-2.new.a = dealt (omega arith) c.deal-in-loop-l-2.ensures (λ i l. let e : 2 + i * 4 ≡ 2 * (2 * i + 1) = omega arith in ap (at c.take-in-loop-l.new.a) e) in
    let made-8-4 : Made 4 4 (line_sum c.deal-in-loop-l-2.new.a 0 2 odd-8-4 8 2) c.some-in-loop-l-2.new.out = made-next 4 (omega arith) (made_none 4 _) c.some-in-loop-l-2.ensures in
    let level-8 : Sums 8 8 half (evens (at c.take-in-loop-l.new.a)) 3 c.butterfly-in-loop-l.new.out = up {x = evens (at c.take-in-loop-l.new.a)} halves-8 (omega arith) odd-8-4-right dealt-8 level-4 made-8-4 c.butterfly-in-loop-l.ensures in
    let dealt-16 : Dealt 8 8 (λ i. (at c.take-in-loop-l.new.a) (2 * i + 1)) c.deal-in-loop-l-3.new.a = dealt (omega arith) c.deal-in-loop-l-3.ensures (λ i l. let e : 1 + i * 2 ≡ 2 * i + 1 = omega arith in ap (at c.take-in-loop-l.new.a) e) in
    (weighed odd-16-8-right dealt-16 4 (omega arith), (omega arith, omega arith))

pub some-requires-in-loop-l-4 : goal.some-requires-in-loop-l-4
some-requires-in-loop-l-4 c =
    let taken : c.loop-l.l < 4 = omega arith in
    let gathered-8 : Gathered 8 16 (across c.args.m.now 4 c.args.apart c.loop-l.l) c.take.new.a = group-next c.requires.0 0 c.loop-l.l taken _ (omega arith) (omega arith) (omega arith) (gather_none 16 _) c.take.ensures in
    let gathered-16 : Gathered 16 16 (across c.args.m.now 4 c.args.apart c.loop-l.l) c.take-in-loop-l.new.a = group-next c.requires.0 1 c.loop-l.l taken _ (omega arith) (omega arith) (omega arith) gathered-8 c.take-in-loop-l.ensures in
    let half : ℤ = to_z w32 (of_z w32 c.args.half) in
    let half-is : half ≡ c.args.half = to_z-of_z w32 c.args.half c.ranges.half in
    let small : nat_abs half ≤ 1000000 = subst (λ (z : ℤ). nat_abs z ≤ 1000000) (sym half-is) c.requires.0.small in
    let dealt-2 : Dealt 2 2 (evens (evens (evens (at c.take-in-loop-l.new.a)))) c.deal.new.a = dealt (omega arith) c.deal.ensures (λ i l. let e : 0 + i * 8 ≡ 2 * (2 * (2 * (i))) = omega arith in ap (at c.take-in-loop-l.new.a) e) in
    let made-2-2 : Made 2 2 (line_sum c.deal.new.a 0 2 first-2-2 4 1) c.some.new.out = made-next 2 (omega arith) (made_none 2 _) c.some.ensures in
    let level-2 : Sums 2 2 half (evens (evens (evens (at c.take-in-loop-l.new.a)))) 1 c.lift.new.e = lowest small first-2-2-right dealt-2 made-2-2 c.lift.ensures in
    let dealt-4 : Dealt 2 2 (λ i. (evens (evens (at c.take-in-loop-l.new.a))) (2 * i + 1)) c.deal-in-loop-l.new.a = dealt (omega arith) c.deal-in-loop-l.ensures (λ i l. let e : 4 + i * 8 ≡ 2 * (2 * (2 * i + 1)) = omega arith in ap (at c.take-in-loop-l.new.a) e) in
    let made-4-2 : Made 2 2 (line_sum c.deal-in-loop-l.new.a 0 2 odd-4-2 4 1) c.some-in-loop-l.new.out = made-next 2 (omega arith) (made_none 2 _) c.some-in-loop-l.ensures in
    let level-4 : Sums 4 4 half (evens (evens (at c.take-in-loop-l.new.a))) 2 c.butterfly.new.out = up {x = evens (evens (at c.take-in-loop-l.new.a))} halves-4 (omega arith) odd-4-2-right dealt-4 level-2 made-4-2 c.butterfly.ensures in
    let dealt-8 : Dealt 4 4 (λ i. (evens (at c.take-in-loop-l.new.a)) (2 * i + 1)) c.deal-in-loop-l-2.new.a = dealt (omega arith) c.deal-in-loop-l-2.ensures (λ i l. let e : 2 + i * 4 ≡ 2 * (2 * i + 1) = omega arith in ap (at c.take-in-loop-l.new.a) e) in
    let made-8-4 : Made 4 4 (line_sum c.deal-in-loop-l-2.new.a 0 2 odd-8-4 8 2) c.some-in-loop-l-2.new.out = made-next 4 (omega arith) (made_none 4 _) c.some-in-loop-l-2.ensures in
    let level-8 : Sums 8 8 half (evens (at c.take-in-loop-l.new.a)) 3 c.butterfly-in-loop-l.new.out = up {x = evens (at c.take-in-loop-l.new.a)} halves-8 (omega arith) odd-8-4-right dealt-8 level-4 made-8-4 c.butterfly-in-loop-l.ensures in
    let dealt-16 : Dealt 8 8 (λ i. (at c.take-in-loop-l.new.a) (2 * i + 1)) c.deal-in-loop-l-3.new.a = dealt (omega arith) c.deal-in-loop-l-3.ensures (λ i l. let e : 1 + i * 2 ≡ 2 * i + 1 = omega arith in ap (at c.take-in-loop-l.new.a) e) in
    let made-16-4 : Made 4 8 (line_sum c.deal-in-loop-l-3.new.a 0 2 odd-16-8 16 4) c.some-in-loop-l-3.new.out = made-next 4 (omega arith) (made_none 8 _) c.some-in-loop-l-3.ensures in
    (weighed odd-16-8-right dealt-16 8 (omega arith), (omega arith, omega (arith, made-16-4.long)))

pub butterfly-requires-in-loop-l-2 : goal.butterfly-requires-in-loop-l-2
butterfly-requires-in-loop-l-2 c =
    let taken : c.loop-l.l < 4 = omega arith in
    let gathered-8 : Gathered 8 16 (across c.args.m.now 4 c.args.apart c.loop-l.l) c.take.new.a = group-next c.requires.0 0 c.loop-l.l taken _ (omega arith) (omega arith) (omega arith) (gather_none 16 _) c.take.ensures in
    let gathered-16 : Gathered 16 16 (across c.args.m.now 4 c.args.apart c.loop-l.l) c.take-in-loop-l.new.a = group-next c.requires.0 1 c.loop-l.l taken _ (omega arith) (omega arith) (omega arith) gathered-8 c.take-in-loop-l.ensures in
    let half : ℤ = to_z w32 (of_z w32 c.args.half) in
    let half-is : half ≡ c.args.half = to_z-of_z w32 c.args.half c.ranges.half in
    let small : nat_abs half ≤ 1000000 = subst (λ (z : ℤ). nat_abs z ≤ 1000000) (sym half-is) c.requires.0.small in
    let dealt-2 : Dealt 2 2 (evens (evens (evens (at c.take-in-loop-l.new.a)))) c.deal.new.a = dealt (omega arith) c.deal.ensures (λ i l. let e : 0 + i * 8 ≡ 2 * (2 * (2 * (i))) = omega arith in ap (at c.take-in-loop-l.new.a) e) in
    let made-2-2 : Made 2 2 (line_sum c.deal.new.a 0 2 first-2-2 4 1) c.some.new.out = made-next 2 (omega arith) (made_none 2 _) c.some.ensures in
    let level-2 : Sums 2 2 half (evens (evens (evens (at c.take-in-loop-l.new.a)))) 1 c.lift.new.e = lowest small first-2-2-right dealt-2 made-2-2 c.lift.ensures in
    let dealt-4 : Dealt 2 2 (λ i. (evens (evens (at c.take-in-loop-l.new.a))) (2 * i + 1)) c.deal-in-loop-l.new.a = dealt (omega arith) c.deal-in-loop-l.ensures (λ i l. let e : 4 + i * 8 ≡ 2 * (2 * (2 * i + 1)) = omega arith in ap (at c.take-in-loop-l.new.a) e) in
    let made-4-2 : Made 2 2 (line_sum c.deal-in-loop-l.new.a 0 2 odd-4-2 4 1) c.some-in-loop-l.new.out = made-next 2 (omega arith) (made_none 2 _) c.some-in-loop-l.ensures in
    let level-4 : Sums 4 4 half (evens (evens (at c.take-in-loop-l.new.a))) 2 c.butterfly.new.out = up {x = evens (evens (at c.take-in-loop-l.new.a))} halves-4 (omega arith) odd-4-2-right dealt-4 level-2 made-4-2 c.butterfly.ensures in
    let dealt-8 : Dealt 4 4 (λ i. (evens (at c.take-in-loop-l.new.a)) (2 * i + 1)) c.deal-in-loop-l-2.new.a = dealt (omega arith) c.deal-in-loop-l-2.ensures (λ i l. let e : 2 + i * 4 ≡ 2 * (2 * i + 1) = omega arith in ap (at c.take-in-loop-l.new.a) e) in
    let made-8-4 : Made 4 4 (line_sum c.deal-in-loop-l-2.new.a 0 2 odd-8-4 8 2) c.some-in-loop-l-2.new.out = made-next 4 (omega arith) (made_none 4 _) c.some-in-loop-l-2.ensures in
    let level-8 : Sums 8 8 half (evens (at c.take-in-loop-l.new.a)) 3 c.butterfly-in-loop-l.new.out = up {x = evens (at c.take-in-loop-l.new.a)} halves-8 (omega arith) odd-8-4-right dealt-8 level-4 made-8-4 c.butterfly-in-loop-l.ensures in
    let dealt-16 : Dealt 8 8 (λ i. (at c.take-in-loop-l.new.a) (2 * i + 1)) c.deal-in-loop-l-3.new.a = dealt (omega arith) c.deal-in-loop-l-3.ensures (λ i l. let e : 1 + i * 2 ≡ 2 * i + 1 = omega arith in ap (at c.take-in-loop-l.new.a) e) in
    let made-16-4 : Made 4 8 (line_sum c.deal-in-loop-l-3.new.a 0 2 odd-16-8 16 4) c.some-in-loop-l-3.new.out = made-next 4 (omega arith) (made_none 8 _) c.some-in-loop-l-3.ensures in
    let made-16-8 : Made 8 8 (line_sum c.deal-in-loop-l-3.new.a 0 2 odd-16-8 16 4) c.some-in-loop-l-4.new.out = made-next 8 (omega arith) made-16-4 c.some-in-loop-l-4.ensures in
    (sums-small (omega arith) level-8, (made-small made-16-8, (omega arith, (omega arith, omega arith))))

pub loop-l-preserved : goal.loop-l-preserved
loop-l-preserved c =
    let taken : c.loop-l.l < 4 = omega arith in
    let gathered-8 : Gathered 8 16 (across c.args.m.now 4 c.args.apart c.loop-l.l) c.take.new.a = group-next c.requires.0 0 c.loop-l.l taken _ (omega arith) (omega arith) (omega arith) (gather_none 16 _) c.take.ensures in
    let gathered-16 : Gathered 16 16 (across c.args.m.now 4 c.args.apart c.loop-l.l) c.take-in-loop-l.new.a = group-next c.requires.0 1 c.loop-l.l taken _ (omega arith) (omega arith) (omega arith) gathered-8 c.take-in-loop-l.ensures in
    let half : ℤ = to_z w32 (of_z w32 c.args.half) in
    let half-is : half ≡ c.args.half = to_z-of_z w32 c.args.half c.ranges.half in
    let small : nat_abs half ≤ 1000000 = subst (λ (z : ℤ). nat_abs z ≤ 1000000) (sym half-is) c.requires.0.small in
    let dealt-2 : Dealt 2 2 (evens (evens (evens (at c.take-in-loop-l.new.a)))) c.deal.new.a = dealt (omega arith) c.deal.ensures (λ i l. let e : 0 + i * 8 ≡ 2 * (2 * (2 * (i))) = omega arith in ap (at c.take-in-loop-l.new.a) e) in
    let made-2-2 : Made 2 2 (line_sum c.deal.new.a 0 2 first-2-2 4 1) c.some.new.out = made-next 2 (omega arith) (made_none 2 _) c.some.ensures in
    let level-2 : Sums 2 2 half (evens (evens (evens (at c.take-in-loop-l.new.a)))) 1 c.lift.new.e = lowest small first-2-2-right dealt-2 made-2-2 c.lift.ensures in
    let dealt-4 : Dealt 2 2 (λ i. (evens (evens (at c.take-in-loop-l.new.a))) (2 * i + 1)) c.deal-in-loop-l.new.a = dealt (omega arith) c.deal-in-loop-l.ensures (λ i l. let e : 4 + i * 8 ≡ 2 * (2 * (2 * i + 1)) = omega arith in ap (at c.take-in-loop-l.new.a) e) in
    let made-4-2 : Made 2 2 (line_sum c.deal-in-loop-l.new.a 0 2 odd-4-2 4 1) c.some-in-loop-l.new.out = made-next 2 (omega arith) (made_none 2 _) c.some-in-loop-l.ensures in
    let level-4 : Sums 4 4 half (evens (evens (at c.take-in-loop-l.new.a))) 2 c.butterfly.new.out = up {x = evens (evens (at c.take-in-loop-l.new.a))} halves-4 (omega arith) odd-4-2-right dealt-4 level-2 made-4-2 c.butterfly.ensures in
    let dealt-8 : Dealt 4 4 (λ i. (evens (at c.take-in-loop-l.new.a)) (2 * i + 1)) c.deal-in-loop-l-2.new.a = dealt (omega arith) c.deal-in-loop-l-2.ensures (λ i l. let e : 2 + i * 4 ≡ 2 * (2 * i + 1) = omega arith in ap (at c.take-in-loop-l.new.a) e) in
    let made-8-4 : Made 4 4 (line_sum c.deal-in-loop-l-2.new.a 0 2 odd-8-4 8 2) c.some-in-loop-l-2.new.out = made-next 4 (omega arith) (made_none 4 _) c.some-in-loop-l-2.ensures in
    let level-8 : Sums 8 8 half (evens (at c.take-in-loop-l.new.a)) 3 c.butterfly-in-loop-l.new.out = up {x = evens (at c.take-in-loop-l.new.a)} halves-8 (omega arith) odd-8-4-right dealt-8 level-4 made-8-4 c.butterfly-in-loop-l.ensures in
    let dealt-16 : Dealt 8 8 (λ i. (at c.take-in-loop-l.new.a) (2 * i + 1)) c.deal-in-loop-l-3.new.a = dealt (omega arith) c.deal-in-loop-l-3.ensures (λ i l. let e : 1 + i * 2 ≡ 2 * i + 1 = omega arith in ap (at c.take-in-loop-l.new.a) e) in
    let made-16-4 : Made 4 8 (line_sum c.deal-in-loop-l-3.new.a 0 2 odd-16-8 16 4) c.some-in-loop-l-3.new.out = made-next 4 (omega arith) (made_none 8 _) c.some-in-loop-l-3.ensures in
    let made-16-8 : Made 8 8 (line_sum c.deal-in-loop-l-3.new.a 0 2 odd-16-8 16 4) c.some-in-loop-l-4.new.out = made-next 8 (omega arith) made-16-4 c.some-in-loop-l-4.ensures in
    let level-16 : Sums 16 16 half (at c.take-in-loop-l.new.a) 4 c.butterfly-in-loop-l-2.new.out = up {x = at c.take-in-loop-l.new.a} halves-16 (omega arith) odd-16-8-right dealt-16 level-8 made-16-8 c.butterfly-in-loop-l-2.ensures in
    let row-0 : WroteFrom 0 (8 * (c.loop-l.l + 1)) c.round.new.r (replicate 32 (pos 0)) (tiled 8 (λ j y. shifted half c.args.shift (rows_sum 16 16 4 c.args.apart c.args.m.now j y)) 0) = round-next c.args.shift 4 c.args.apart c.loop-l.l c.args.m.now gathered-16 level-16 0 (omega arith) c.loop-l.invariant.0 c.round.ensures in
    let row-8 : WroteFrom 0 (8 * (c.loop-l.l + 1)) c.round-in-loop-l.new.r (replicate 32 (pos 0)) (tiled 8 (λ j y. shifted half c.args.shift (rows_sum 16 16 4 c.args.apart c.args.m.now j y)) 8) = round-next c.args.shift 4 c.args.apart c.loop-l.l c.args.m.now gathered-16 level-16 8 (omega arith) c.loop-l.invariant.1 c.round-in-loop-l.ensures in
    (row-0, row-8)

pub returns : goal.returns
returns c =
    let half : ℤ = to_z w32 (of_z w32 c.args.half) in
    let half-is : half ≡ c.args.half = to_z-of_z w32 c.args.half c.ranges.half in
    let full : 8 * c.loop-l.l ≡ 32 = omega arith in
    let columns-8 : Columns 8 4 16 (λ j y. shifted half c.args.shift (rows_sum 16 16 4 c.args.apart c.args.m.now j y)) c.spread.new.r = columns-next (columns-none _ c.requires.1) (wrote-to 32 full c.loop-l.invariant.0) c.spread.ensures in
    let columns-16 : Columns 16 4 16 (λ j y. shifted half c.args.shift (rows_sum 16 16 4 c.args.apart c.args.m.now j y)) c.spread-2.new.r = columns-next columns-8 (wrote-to 32 full c.loop-l.invariant.1) c.spread-2.ensures in
    columns-all (omega arith) columns-16 ∙ ap (λ (z : ℤ). block 16 4 (λ j y. shifted z c.args.shift (rows_sum 16 16 4 c.args.apart c.args.m.now j y))) half-is
