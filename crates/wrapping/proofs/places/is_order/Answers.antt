-- `places::is_order` meets its contract. Assumes nothing.
use Rattle.std.proofs.Common.{◌≡◌, ℕ, true, length, sym, ap, ◌∙◌, arith, eq-eqb, ne_eqb}
use Rattle.wrapping.specs.Order.{times, once_to, is_order}
use Rattle.wrapping.proofs.Orders.{once-none, once-next, once-off}
use Rattle.wrapping.proofs.places.is_order.Goals as goal

pub returns-then-order-n : goal.returns-then-order-n
unfolding is_order
returns-then-order-n c = rw (ne_eqb (length c.args.order.now) c.args.n c.if-order-n.true)

pub loop-k-init : goal.loop-k-init
loop-k-init c = once-none _

pub returns-then-times_of-ne1 : goal.returns-then-times_of-ne1
unfolding is_order
returns-then-times_of-ne1 c =
    let s = c.args in
    let off = once-off s.n s.order.now c.loop-k.k c.loop-k-test.true (λ e. c.if-times_of-ne1.true (c.times_of.ensures ∙ e)) in
    rw (eq-eqb (length s.order.now) s.n c.if-order-n.false, off)

pub loop-k-preserved : goal.loop-k-preserved
loop-k-preserved c =
    let l = c.args.order.now in
    let k = c.loop-k.k in
    once-next l k ∙ rw (eq-eqb (times k l) 1 (sym c.times_of.ensures ∙ c.if-times_of-ne1.false), c.loop-k.invariant)

pub returns : goal.returns
unfolding is_order
returns c =
    let s = c.args in
    let end : c.loop-k.k ≡ s.n = omega (arith, c.loop-k.auto.k-end, c.loop-k-test.false) in
    let all : once_to s.n s.order.now ≡ true = ap (λ (m : ℕ). once_to m s.order.now) (sym end) ∙ c.loop-k.invariant in
    rw (eq-eqb (length s.order.now) s.n c.if-order-n.false, all)
