-- Made by crates/kernel_levels/make; do not edit. `along_8_4_8`: up the levels from 2 points to 8, then into rows. Assumes nothing.
use Rattle.std.proofs.Common.{◌≡◌, sym, ap, ◌∙◌, subst, ◌+◌, ◌*◌, ◌≤◌, ◌<◌, ℤ, pos, nat_abs, to_z, of_z, arith}
use mir.Syntax.{w32}
use mir.ValLaws.{to_z-of_z}
use lib.ListN.{replicate}
use Rattle.algebra.specs.Lists.{at, block}
use Rattle.product.specs.Product.{line_sum, shifted}
use Rattle.halves.specs.Halves.{evens}
use Rattle.halves.proofs.Halved.{halves-4, halves-8}
use Rattle.kernel_steps.specs.Written.{WroteFrom}
use Rattle.kernel_steps.proofs.Writing.{wrote-to}
use Rattle.kernel_levels.specs.Kernels.{across, rows_sum}
use Rattle.kernel_levels.proofs.Levels.{Dealt, dealt, Gathered, gather_none, Made, made_none, made-next, made-small, Sums, sums-small, lowest, up}
use Rattle.kernel_levels.proofs.Across.{group-room, group-next, tiled, round-next, Columns, columns-none, columns-next, columns-all}
use Rattle.kernel_levels.proofs.Stored.{first-2-2, first-2-2-right, odd-4-2, odd-4-2-right, odd-8-2, odd-8-2-right}
use Rattle.kernels_along_4_8.proofs.along_8_4_8.Goals as goal

pub take-requires : goal.take-requires
take-requires c =
    let taken : c.loop-l.l < 8 = omega arith in
    (omega arith, λ i h. group-room c.requires.0 0 c.loop-l.l taken _ i (omega arith) (omega arith) (omega arith))

pub butterfly-requires : goal.butterfly-requires
butterfly-requires c =
    let taken : c.loop-l.l < 8 = omega arith in
    let gathered-4 : Gathered 4 4 (across c.args.m.now 8 c.args.apart c.loop-l.l) c.take.new.a = group-next c.requires.0 0 c.loop-l.l taken _ (omega arith) (omega arith) (omega arith) (gather_none 4 _) c.take.ensures in
    let half : ℤ = to_z w32 (of_z w32 c.args.half) in
    let half-is : half ≡ c.args.half = to_z-of_z w32 c.args.half c.ranges.half in
    let small : nat_abs half ≤ 1000000 = subst (λ (z : ℤ). nat_abs z ≤ 1000000) (sym half-is) c.requires.0.small in
    let dealt-2 : Dealt 1 2 (evens (evens (at c.take.new.a))) c.deal.new.a = dealt (omega arith) c.deal.ensures (λ i l. let e : 0 + i * 4 ≡ 2 * (2 * (i)) = omega arith in ap (at c.take.new.a) e) in
    let made-2-2 : Made 2 2 (line_sum c.deal.new.a 0 2 first-2-2 4 1) c.some.new.out = made-next 2 (omega arith) (made_none 2 _) c.some.ensures in
    let level-2 : Sums 2 1 half (evens (evens (at c.take.new.a))) 1 c.lift.new.e = lowest small first-2-2-right dealt-2 made-2-2 c.lift.ensures in
    let dealt-4 : Dealt 1 2 (λ i. (evens (at c.take.new.a)) (2 * i + 1)) c.deal-in-loop-l.new.a = dealt (omega arith) c.deal-in-loop-l.ensures (λ i l. let e : 2 + i * 4 ≡ 2 * (2 * i + 1) = omega arith in ap (at c.take.new.a) e) in
    let made-4-2 : Made 2 2 (line_sum c.deal-in-loop-l.new.a 0 2 odd-4-2 4 1) c.some-in-loop-l.new.out = made-next 2 (omega arith) (made_none 2 _) c.some-in-loop-l.ensures in
    (sums-small (omega arith) level-2, (made-small made-4-2, (omega arith, (omega arith, omega arith))))

pub butterfly-requires-in-loop-l : goal.butterfly-requires-in-loop-l
butterfly-requires-in-loop-l c =
    let taken : c.loop-l.l < 8 = omega arith in
    let gathered-4 : Gathered 4 4 (across c.args.m.now 8 c.args.apart c.loop-l.l) c.take.new.a = group-next c.requires.0 0 c.loop-l.l taken _ (omega arith) (omega arith) (omega arith) (gather_none 4 _) c.take.ensures in
    let half : ℤ = to_z w32 (of_z w32 c.args.half) in
    let half-is : half ≡ c.args.half = to_z-of_z w32 c.args.half c.ranges.half in
    let small : nat_abs half ≤ 1000000 = subst (λ (z : ℤ). nat_abs z ≤ 1000000) (sym half-is) c.requires.0.small in
    let dealt-2 : Dealt 1 2 (evens (evens (at c.take.new.a))) c.deal.new.a = dealt (omega arith) c.deal.ensures (λ i l. let e : 0 + i * 4 ≡ 2 * (2 * (i)) = omega arith in ap (at c.take.new.a) e) in
    let made-2-2 : Made 2 2 (line_sum c.deal.new.a 0 2 first-2-2 4 1) c.some.new.out = made-next 2 (omega arith) (made_none 2 _) c.some.ensures in
    let level-2 : Sums 2 1 half (evens (evens (at c.take.new.a))) 1 c.lift.new.e = lowest small first-2-2-right dealt-2 made-2-2 c.lift.ensures in
    let dealt-4 : Dealt 1 2 (λ i. (evens (at c.take.new.a)) (2 * i + 1)) c.deal-in-loop-l.new.a = dealt (omega arith) c.deal-in-loop-l.ensures (λ i l. let e : 2 + i * 4 ≡ 2 * (2 * i + 1) = omega arith in ap (at c.take.new.a) e) in
    let made-4-2 : Made 2 2 (line_sum c.deal-in-loop-l.new.a 0 2 odd-4-2 4 1) c.some-in-loop-l.new.out = made-next 2 (omega arith) (made_none 2 _) c.some-in-loop-l.ensures in
    let level-4 : Sums 4 2 half (evens (at c.take.new.a)) 2 c.butterfly.new.out = up {x = evens (at c.take.new.a)} halves-4 (omega arith) odd-4-2-right dealt-4 level-2 made-4-2 c.butterfly.ensures in
    let dealt-8 : Dealt 2 2 (λ i. (at c.take.new.a) (2 * i + 1)) c.deal-in-loop-l-2.new.a = dealt (omega arith) c.deal-in-loop-l-2.ensures (λ i l. let e : 1 + i * 2 ≡ 2 * i + 1 = omega arith in ap (at c.take.new.a) e) in
    let made-8-4 : Made 4 4 (line_sum c.deal-in-loop-l-2.new.a 0 2 odd-8-2 8 1) c.some-in-loop-l-2.new.out = made-next 4 (omega arith) (made_none 4 _) c.some-in-loop-l-2.ensures in
    (sums-small (omega arith) level-4, (made-small made-8-4, (omega arith, (omega arith, omega arith))))

pub loop-l-preserved : goal.loop-l-preserved
loop-l-preserved c =
    let taken : c.loop-l.l < 8 = omega arith in
    let gathered-4 : Gathered 4 4 (across c.args.m.now 8 c.args.apart c.loop-l.l) c.take.new.a = group-next c.requires.0 0 c.loop-l.l taken _ (omega arith) (omega arith) (omega arith) (gather_none 4 _) c.take.ensures in
    let half : ℤ = to_z w32 (of_z w32 c.args.half) in
    let half-is : half ≡ c.args.half = to_z-of_z w32 c.args.half c.ranges.half in
    let small : nat_abs half ≤ 1000000 = subst (λ (z : ℤ). nat_abs z ≤ 1000000) (sym half-is) c.requires.0.small in
    let dealt-2 : Dealt 1 2 (evens (evens (at c.take.new.a))) c.deal.new.a = dealt (omega arith) c.deal.ensures (λ i l. let e : 0 + i * 4 ≡ 2 * (2 * (i)) = omega arith in ap (at c.take.new.a) e) in
    let made-2-2 : Made 2 2 (line_sum c.deal.new.a 0 2 first-2-2 4 1) c.some.new.out = made-next 2 (omega arith) (made_none 2 _) c.some.ensures in
    let level-2 : Sums 2 1 half (evens (evens (at c.take.new.a))) 1 c.lift.new.e = lowest small first-2-2-right dealt-2 made-2-2 c.lift.ensures in
    let dealt-4 : Dealt 1 2 (λ i. (evens (at c.take.new.a)) (2 * i + 1)) c.deal-in-loop-l.new.a = dealt (omega arith) c.deal-in-loop-l.ensures (λ i l. let e : 2 + i * 4 ≡ 2 * (2 * i + 1) = omega arith in ap (at c.take.new.a) e) in
    let made-4-2 : Made 2 2 (line_sum c.deal-in-loop-l.new.a 0 2 odd-4-2 4 1) c.some-in-loop-l.new.out = made-next 2 (omega arith) (made_none 2 _) c.some-in-loop-l.ensures in
    let level-4 : Sums 4 2 half (evens (at c.take.new.a)) 2 c.butterfly.new.out = up {x = evens (at c.take.new.a)} halves-4 (omega arith) odd-4-2-right dealt-4 level-2 made-4-2 c.butterfly.ensures in
    let dealt-8 : Dealt 2 2 (λ i. (at c.take.new.a) (2 * i + 1)) c.deal-in-loop-l-2.new.a = dealt (omega arith) c.deal-in-loop-l-2.ensures (λ i l. let e : 1 + i * 2 ≡ 2 * i + 1 = omega arith in ap (at c.take.new.a) e) in
    let made-8-4 : Made 4 4 (line_sum c.deal-in-loop-l-2.new.a 0 2 odd-8-2 8 1) c.some-in-loop-l-2.new.out = made-next 4 (omega arith) (made_none 4 _) c.some-in-loop-l-2.ensures in
    let level-8 : Sums 8 4 half (at c.take.new.a) 3 c.butterfly-in-loop-l.new.out = up {x = at c.take.new.a} halves-8 (omega arith) odd-8-2-right dealt-8 level-4 made-8-4 c.butterfly-in-loop-l.ensures in
    let row-0 : WroteFrom 0 (8 * (c.loop-l.l + 1)) c.round.new.r (replicate 64 (pos 0)) (tiled 8 (λ j y. shifted half c.args.shift (rows_sum 8 4 8 c.args.apart c.args.m.now j y)) 0) = round-next c.args.shift 8 c.args.apart c.loop-l.l c.args.m.now gathered-4 level-8 0 (omega arith) c.loop-l.invariant c.round.ensures in
    row-0

pub returns : goal.returns
returns c =
    let half : ℤ = to_z w32 (of_z w32 c.args.half) in
    let half-is : half ≡ c.args.half = to_z-of_z w32 c.args.half c.ranges.half in
    let full : 8 * c.loop-l.l ≡ 64 = omega arith in
    let columns-8 : Columns 8 8 8 (λ j y. shifted half c.args.shift (rows_sum 8 4 8 c.args.apart c.args.m.now j y)) c.spread.new.r = columns-next (columns-none _ c.requires.1) (wrote-to 64 full c.loop-l.invariant) c.spread.ensures in
    columns-all (omega arith) columns-8 ∙ ap (λ (z : ℤ). block 8 8 (λ j y. shifted z c.args.shift (rows_sum 8 4 8 c.args.apart c.args.m.now j y))) half-is
