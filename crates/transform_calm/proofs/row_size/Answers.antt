-- `row_size` meets its contract: the sizes before x are added. Assumes nothing.
use native.Mathlib.Omega.{arith}
use mathlib.Core.Path.{◌≡◌, sym, ap, ◌∙◌, subst}
use Prim.Native.Nat.{ℕ, ◌≤◌}
use lib.IntN.{ℤ, nat_abs}
use lib.ListN.{length}
use mir.Syntax.{w32}
use mir.ValLaws.{to_z-of_z}
use Rattle.algebra.specs.Sum.{sumℕ}
use Rattle.algebra.specs.Lists.{at}
use Rattle.algebra.proofs.Sum.{sumℕ-next}
use Rattle.transform_calm.proofs.Calm.{sums_none}
use Rattle.transform_calm.proofs.row_size.Goals as goal
use Rattle.transform_calm.proofs.row_size.Goals.{After-size-arg-1, After-size-sum}

-- the size of the number at x
sized : (c : After-size-sum) → c.size-sum.result ≡ nat_abs (at c.args.c.now c.loop-x.x)
sized c = c.size-sum.ensures ∙ ap nat_abs (to_z-of_z w32 (at c.args.c.now c.loop-x.x) (record { sfits = c.size-arg-1.given }))

one : (c : After-size-sum) → c.size-sum.result ≤ 1048576
one c = omega (arith, sized c, c.requires.0 c.loop-x.x c.loop-x-test.true)

pub loop-x-init : goal.loop-x-init
loop-x-init c = (sym (sums_none (λ x. nat_abs (at c.args.c.now x))), omega arith)

pub size-sum-requires : goal.size-sum-requires
size-sum-requires c =
    let A = (goal.at.size-sum-requires c).After-size-arg-1 in
    subst (λ (z : ℤ). nat_abs z ≤ 1048576) (sym (to_z-of_z w32 (at c.args.c.now c.loop-x.x) (record { sfits = A.size-arg-1.given }))) (c.requires.0 c.loop-x.x c.loop-x-test.true)

pub overflow_add-sum : goal.overflow_add-sum
overflow_add-sum c = omega (arith, c.loop-x.invariant.1, c.requires.1, one (goal.at.overflow_add-sum c).After-size-sum)

pub loop-x-preserved : goal.loop-x-preserved
loop-x-preserved c =
    let S = (goal.at.loop-x-preserved c).After-size-sum in
    (omega (arith, c.loop-x.invariant.0, sized S, sumℕ-next c.loop-x.x (λ x. nat_abs (at c.args.c.now x))), omega (arith, c.loop-x.invariant.1, one S))

pub returns : goal.returns
returns c =
    let e : c.loop-x.x ≡ length c.args.c.now = omega arith in
    (c.loop-x.invariant.0 ∙ ap (λ (n : ℕ). sumℕ n (λ x. nat_abs (at c.args.c.now x))) e, omega (arith, c.loop-x.invariant.1, c.requires.1))
