-- `forward::row` meets its contract. Assumes nothing.
use Rattle.std.proofs.Common.{rules, arith, ◌≡◌, ℕ, ◌+◌, ◌*◌, ◌≤◌, ◌<◌, ℤ, ◌+ℤ◌, ◌*ℤ◌, nat_abs, length, to_z, of_z, sym, ap, subst, ◌∙◌}
use mir.Syntax.{w16, w32}
use mir.ValLaws.{to_z-of_z}
use Rattle.algebra.specs.Sum.{sum}
use Rattle.algebra.specs.Lists.{at}
use Rattle.algebra.proofs.Sum.{sum-next}
use Rattle.algebra.proofs.Word.{small}
use Rattle.product.proofs.Summing.{sum-none-yet}
use Rattle.dct2_line.proofs.ForwardStep.{less, row-size}
use Rattle.dct2_line.proofs.forward.row.Goals as goal
use Rattle.dct2_line.proofs.forward.row.Goals.{In-loop-j}

pub loop-j-init : goal.loop-j-init
loop-j-init c = sum-none-yet (λ j. at c.args.t.now (2 * j + c.args.o) *ℤ at c.args.v.now j)

module _ (c : In-loop-j) where
  abbrev j : ℕ
  j = c.loop-j.j

  abbrev w : ℤ
  w = at c.args.t.now (2 * j + c.args.o)

  abbrev z : ℤ
  z = at c.args.v.now j

  here : j < c.args.h
  here = c.loop-j-test.true

  weight : 2 * j + c.args.o < length c.args.t.now
  weight = c.requires.0.held j here

  low : nat_abs z ≤ 1048576
  low = less c.args.h (nat_abs z) 1048576 (omega (arith, here)) (c.requires.1.low j)

  light : nat_abs w ≤ 90
  light = c.requires.0.light j here

  reads-w : to_z w16 (of_z w16 w) ≡ w
  reads-w = to_z-of_z w16 w (small {B = 90} (omega arith) light)

  reads-z : to_z w32 (of_z w32 z) ≡ z
  reads-z = to_z-of_z w32 z (small {B = 1048576} (omega arith) low)

pub overflow_mul-j : goal.overflow_mul-j
overflow_mul-j c = omega (arith, weight (goal.at.overflow_mul-j c).In-loop-j)

pub overflow_add-j : goal.overflow_add-j
overflow_add-j c = omega (arith, weight (goal.at.overflow_add-j c).In-loop-j)

pub offset_bounds-t-j : goal.offset_bounds-t-j
offset_bounds-t-j c = omega (arith, weight (goal.at.offset_bounds-t-j c).In-loop-j)

pub bounds-t-j : goal.bounds-t-j
bounds-t-j c = weight (goal.at.bounds-t-j c).In-loop-j

pub times-total-requires : goal.times-total-requires
times-total-requires c =
    let I = (goal.at.times-total-requires c).In-loop-j in (
      subst (λ (y : ℤ). nat_abs y ≤ 1000000000) (sym c.loop-j.invariant)
          (omega (arith, row-size c.args.h (λ k. at c.args.t.now (2 * k + c.args.o)) (at c.args.v.now) c.requires.0.light c.requires.1.low c.loop-j.j (omega arith) (omega arith))),
      (
        subst (λ (y : ℤ). nat_abs y ≤ 90) (sym (reads-w I)) (light I),
        subst (λ (y : ℤ). nat_abs y ≤ 1048576) (sym (reads-z I)) (low I),
      ),
    )

pub loop-j-preserved : goal.loop-j-preserved
loop-j-preserved c =
    let I = (goal.at.loop-j-preserved c).In-loop-j in
    to_z-of_z w32 c.times-total.result (search rules) ∙ c.times-total.ensures ∙ (λ t. c.loop-j.invariant t +ℤ reads-w I t *ℤ reads-z I t)
    ∙ sym (sum-next c.loop-j.j (λ k. at c.args.t.now (2 * k + c.args.o) *ℤ at c.args.v.now k))

pub returns : goal.returns
returns c =
    let e : c.loop-j.j ≡ c.args.h = omega arith in
    c.loop-j.invariant ∙ ap (λ (m : ℕ). sum m (λ j. at c.args.t.now (2 * j + c.args.o) *ℤ at c.args.v.now j)) e
