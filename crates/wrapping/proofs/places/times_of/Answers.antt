-- `places::times_of` meets its contract. Assumes nothing.
use Rattle.std.proofs.Common.{◌≡◌, ℕ, cond, eqb, zero-add, arith, eq-eqb, ne_eqb}
use Rattle.wrapping.proofs.Orders.{times-on, times-end}
use Rattle.wrapping.proofs.places.times_of.Goals as goal
use Rattle.wrapping.proofs.places.times_of.Goals.{then-place-k, else-place-k}

one-here : (x k : ℕ) → x ≡ k → ◌≡◌ {A = ℕ} (cond (eqb x k) 1 0) 1
one-here x k e = rw (eq-eqb x k e)

one-off : (x k : ℕ) → (x ≡ k → ⊥) → ◌≡◌ {A = ℕ} (cond (eqb x k) 1 0) 0
one-off x k e = rw (ne_eqb x k e)

pub loop-place-init : goal.loop-place-init
loop-place-init c = (omega arith, zero-add _)

pub loop-place-preserved : goal.loop-place-preserved
loop-place-preserved c =
    let l = c.args.order.now in
    let i = c.loop-place.place-index in
    let on = times-on l c.args.k i c.loop-place-test.true in
    elim c.if-place-k.branch [
      | then-place-k w ↦ omega (arith, on, w.t-is, c.loop-place.invariant.0, c.loop-place.invariant.1, one-here _ c.args.k w.if-place-k.true)
      | else-place-k w ↦ omega (arith, on, w.t-is, c.loop-place.invariant.0, c.loop-place.invariant.1, one-off _ c.args.k w.if-place-k.false)
    ]

pub returns : goal.returns
returns c = omega (arith, times-end c.args.order.now c.args.k c.loop-place.place-index c.loop-place-test.false, c.loop-place.invariant.1)
