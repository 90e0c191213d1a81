-- `crossed` meets its contract: the columns before x are crossed. Assumes nothing.
use borrow.Author.Rules.{rules}
use native.Mathlib.Omega.{arith}
use mathlib.Core.Path.{◌≡◌, ◌∙◌}
use Prim.Native.Nat.{ℕ, ◌+◌, ◌-◌, ◌≤◌, ◌<◌}
use lib.ListN.{length, length-set}
use mir.Syntax.{w16, w32}
use mir.Val.{to_z, of_z}
use mir.ValLaws.{to_z-of_z}
use Rattle.algebra.specs.Lists.{at}
use Rattle.transform_two.specs.Two.{Crossed}
use Rattle.transform_two.proofs.Crossing.{cross-none, cross-next, sum-cross, difference-cross, cross-to}
use Rattle.transform_two.proofs.columns.crossed.Statement.{statement}
use Rattle.transform_two.proofs.columns.crossed.Tie as tie

abbrev invariant-loop : tie.invariant-loop-x
invariant-loop s step e₀ x₀ e x = (x ≤ step) × Crossed step x s e

abbrev decreases-loop : tie.decreases-loop-x
decreases-loop s step e₀ x₀ e x = step - x

loop-holds : tie.Need-loop-x-init invariant-loop decreases-loop
loop-holds c = (omega arith, cross-none _ _ _ c.requires.1.1)

mul-a : tie.Need-offset_bounds-s-x invariant-loop decreases-loop
mul-a c = let s = c.before.before in omega (arith, s.requires, c.loop-x-test.true)

element-copy-out-a : tie.Need-bounds-s-x invariant-loop decreases-loop
element-copy-out-a c = let s = c.before.before in omega (arith, s.requires, c.loop-x-test.true)

add-b : tie.Need-overflow_add-b invariant-loop decreases-loop
add-b c = let s = c.before.before.before in omega (arith, s.requires, c.before.loop-x-test.true)

mul-b : tie.Need-offset_bounds-s-step invariant-loop decreases-loop
mul-b c = let s = c.before.before.before in omega (arith, s.requires, c.before.loop-x-test.true)

element-copy-out-b : tie.Need-bounds-s-step invariant-loop decreases-loop
element-copy-out-b c = let s = c.before.before.before in omega (arith, s.requires, c.before.loop-x-test.true)

sum-of-requires : tie.Need-sum_of-requires invariant-loop decreases-loop
sum-of-requires c κs = record { small = omega arith; short = omega arith }

mul-e : tie.Need-offset_bounds-e-x invariant-loop decreases-loop
mul-e c = let s = c.before.before.before.before.before in omega (arith, s.requires, c.before.before.before.loop-x-test.true)

element-set-from-e : tie.Need-bounds-e-x invariant-loop decreases-loop
element-set-from-e c = let L = c.before.before.before.before in let s = L.before in omega (arith, s.requires, c.before.before.before.loop-x-test.true, L.loop-x.invariant.1.long)

difference-of-requires : tie.Need-difference_of-requires invariant-loop decreases-loop
difference-of-requires c κs = record { small = omega arith; short = omega arith }

add-t12 : tie.Need-overflow_add-step invariant-loop decreases-loop
add-t12 c = let s = c.before.before.before.before.before.before in omega (arith, s.requires, c.before.before.before.before.loop-x-test.true)

mul-t8 : tie.Need-offset_bounds-e-step invariant-loop decreases-loop
mul-t8 c = let s = c.before.before.before.before.before.before in omega (arith, s.requires, c.before.before.before.before.loop-x-test.true)

element-set-from-e-2 : tie.Need-bounds-e-step invariant-loop decreases-loop
element-set-from-e-2 c =
    let L = c.before.before.before.before.before in
    let s = L.before in
    omega (arith, s.requires, c.before.before.before.before.loop-x-test.true, L.loop-x.invariant.1.long, length-set L.loop-x.e L.loop-x.x (to_z w32 (of_z w32 c.before.sum_of.result)))

add-x : tie.Need-overflow_add-x invariant-loop decreases-loop
add-x c = search rules

loop-less : tie.Need-loop-x-smaller invariant-loop decreases-loop
loop-less c = search rules

loop-again : tie.Need-loop-x-preserved invariant-loop decreases-loop
loop-again c =
    let I = c.before.before.before.before in
    let L = I.before in
    let s = L.before in
    let l = s.args.s.now in
    let x = L.loop-x.x in
    let p = to_z-of_z w16 (at l x) (record { sfits = c.before.before.before.a-1.given }) in
    let q = to_z-of_z w16 (at l (s.args.step + x)) (record { sfits = c.before.before.b-1.given }) in (
      omega (arith, I.loop-x-test.true),
      cross-next _ _ I.loop-x-test.true s.requires.0 L.loop-x.invariant.1
          (to_z-of_z w32 c.before.sum_of.result (record { sfits = c.before.sum_of.type_inv }) ∙ c.before.sum_of.ensures ∙ sum-cross s.args.step l x _ _ p q)
          (to_z-of_z w32 c.difference_of.result (record { sfits = c.difference_of.type_inv }) ∙ c.difference_of.ensures ∙ difference-cross s.args.step l x _ _ p q),
    )

returns : tie.Need-returns invariant-loop decreases-loop
returns c = let L = c.before in cross-to L.before.args.step (omega (arith, L.loop-x.invariant.0, c.loop-x-test.false)) L.loop-x.invariant.1

pub crossed_spec : {M : Type 1} → statement M
crossed_spec =
    tie.close
    (tie.spec
    invariant-loop
    decreases-loop
    loop-holds
    mul-a
    element-copy-out-a
    add-b
    mul-b
    element-copy-out-b
    sum-of-requires
    mul-e
    element-set-from-e
    difference-of-requires
    add-t12
    mul-t8
    element-set-from-e-2
    add-x
    loop-less
    loop-again
    returns)
