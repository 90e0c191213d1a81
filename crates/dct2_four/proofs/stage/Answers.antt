use Rattle.std.proofs.Common.{arith, ◌≡◌, sym, ap, ◌∙◌, subst, ◌+◌, ◌*◌, ◌≤◌, ◌<◌, nat_abs, ℤ, to_z, of_z}
use mir.Syntax.{w32}
use mir.ValLaws.{to_z-of_z}
use Rattle.algebra.specs.Lists.{at, block}
use Rattle.product.specs.Product.{line_sum, shifted}
use Rattle.halves.specs.Halves.{evens}
use Rattle.halves.proofs.Halved.{halves-4}
use Rattle.kernel_steps.proofs.Writing.{wrote-to}
use Rattle.kernel_levels.specs.Kernels.{across, rows_sum}
use Rattle.kernel_levels.proofs.Levels.{Dealt, dealt, Gathered, gather_none, Made, made_none, made-next, made-small, Sums, sums-small, lowest, up}
use Rattle.kernel_levels.proofs.Across.{group-room, group-next, round-next}
use Rattle.kernel_levels.proofs.Stored.{first-2-2, first-2-2-right, odd-4-2, odd-4-2-right}
use Rattle.dct2_four.proofs.Four.{rows-done}
use Rattle.dct2_four.proofs.stage.Goals as goal

pub take-requires : goal.take-requires
take-requires c =
    let taken : c.loop-l.l < 4 = omega (arith, c.requires.1.1) in
    (omega arith, λ i h. group-room c.requires.0 0 c.loop-l.l taken _ i (omega arith) (omega arith) (omega arith))

pub butterfly-requires : goal.butterfly-requires
butterfly-requires c =
    let taken : c.loop-l.l < 4 = omega (arith, c.requires.1.1) in
    let gathered-4 : Gathered 4 4 (across c.args.x.now 4 0 c.loop-l.l) c.take.new.a = group-next c.requires.0 0 c.loop-l.l taken _ (omega arith) (omega arith) (omega arith) (gather_none 4 _) c.take.ensures in
    let half : ℤ = to_z w32 (of_z w32 c.args.half) in
    let half-is : half ≡ c.args.half = to_z-of_z w32 c.args.half c.ranges.half in
    let small : nat_abs half ≤ 1000000 = subst (λ (z : ℤ). nat_abs z ≤ 1000000) (sym half-is) c.requires.0.small in
    let dealt-2 : Dealt 2 2 (evens (at c.take.new.a)) c.deal.new.a = dealt (omega arith) c.deal.ensures (λ i l. let e : 0 + i * 2 ≡ 2 * (i) = omega arith in ap (at c.take.new.a) e) in
    let made-2-2 : Made 2 2 (line_sum c.deal.new.a 0 2 first-2-2 4 1) c.some.new.out = made-next 2 (omega arith) (made_none 2 _) c.some.ensures in
    let level-2 : Sums 2 2 half (evens (at c.take.new.a)) 1 c.lift.new.e = lowest small first-2-2-right dealt-2 made-2-2 c.lift.ensures in
    let dealt-4 : Dealt 2 2 (λ i. (at c.take.new.a) (2 * i + 1)) c.deal-in-loop-l.new.a = dealt (omega arith) c.deal-in-loop-l.ensures (λ i l. let e : 1 + i * 2 ≡ 2 * i + 1 = omega arith in ap (at c.take.new.a) e) in
    let made-4-2 : Made 2 2 (line_sum c.deal-in-loop-l.new.a 0 2 odd-4-2 4 1) c.some-in-loop-l.new.out = made-next 2 (omega arith) (made_none 2 _) c.some-in-loop-l.ensures in
    (sums-small (omega arith) level-2, (made-small made-4-2, (omega arith, (omega arith, omega arith))))

pub loop-l-preserved : goal.loop-l-preserved
loop-l-preserved c =
    let taken : c.loop-l.l < 4 = omega (arith, c.requires.1.1) in
    let gathered-4 : Gathered 4 4 (across c.args.x.now 4 0 c.loop-l.l) c.take.new.a = group-next c.requires.0 0 c.loop-l.l taken _ (omega arith) (omega arith) (omega arith) (gather_none 4 _) c.take.ensures in
    let half : ℤ = to_z w32 (of_z w32 c.args.half) in
    let half-is : half ≡ c.args.half = to_z-of_z w32 c.args.half c.ranges.half in
    let small : nat_abs half ≤ 1000000 = subst (λ (z : ℤ). nat_abs z ≤ 1000000) (sym half-is) c.requires.0.small in
    let dealt-2 : Dealt 2 2 (evens (at c.take.new.a)) c.deal.new.a = dealt (omega arith) c.deal.ensures (λ i l. let e : 0 + i * 2 ≡ 2 * (i) = omega arith in ap (at c.take.new.a) e) in
    let made-2-2 : Made 2 2 (line_sum c.deal.new.a 0 2 first-2-2 4 1) c.some.new.out = made-next 2 (omega arith) (made_none 2 _) c.some.ensures in
    let level-2 : Sums 2 2 half (evens (at c.take.new.a)) 1 c.lift.new.e = lowest small first-2-2-right dealt-2 made-2-2 c.lift.ensures in
    let dealt-4 : Dealt 2 2 (λ i. (at c.take.new.a) (2 * i + 1)) c.deal-in-loop-l.new.a = dealt (omega arith) c.deal-in-loop-l.ensures (λ i l. let e : 1 + i * 2 ≡ 2 * i + 1 = omega arith in ap (at c.take.new.a) e) in
    let made-4-2 : Made 2 2 (line_sum c.deal-in-loop-l.new.a 0 2 odd-4-2 4 1) c.some-in-loop-l.new.out = made-next 2 (omega arith) (made_none 2 _) c.some-in-loop-l.ensures in
    let level-4 : Sums 4 4 half (at c.take.new.a) 2 c.butterfly.new.out = up {x = at c.take.new.a} halves-4 (omega arith) odd-4-2-right dealt-4 level-2 made-4-2 c.butterfly.ensures in
    round-next c.args.shift 4 0 c.loop-l.l c.args.x.now gathered-4 level-4 0 (omega arith) c.loop-l.invariant c.round.ensures

pub returns : goal.returns
returns c =
    let half : ℤ = to_z w32 (of_z w32 c.args.half) in
    let all : 4 * c.loop-l.l ≡ 16 = omega (arith, c.requires.1.1) in
    rows-done (λ j y. shifted half c.args.shift (rows_sum 4 4 4 0 c.args.x.now j y)) c.requires.1.0 (wrote-to 16 all c.loop-l.invariant)
    ∙ ap (λ (z : ℤ). block 4 4 (λ j y. shifted z c.args.shift (rows_sum 4 4 4 0 c.args.x.now j y))) (to_z-of_z w32 c.args.half c.ranges.half)
