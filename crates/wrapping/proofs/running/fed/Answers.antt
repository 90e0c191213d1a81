-- `running::fed` meets its contract. Assumes nothing.
use Rattle.std.proofs.Common.{◌≡◌, ℕ, ◌+◌, ◌*◌, ◌%◌, ◌^◌, ◌<◌, ◌≤◌, length, get_or, drop, ℤ, nat_abs, sym, refl, ap, ◌∙◌, arith}
use Rattle.wrapping.specs.Wrapped.{wrap, adder}
use Rattle.wrapping.specs.Feed.{product_at}
use Rattle.wrapping.proofs.Orders.{order_below, over-on, over-end}
use Rattle.wrapping.proofs.Adder.{adder-on, adder-end, sum-size}
use Rattle.wrapping.proofs.running.fed.Goals as goal

pub loop-k-init : goal.loop-k-init
loop-k-init c = (refl, omega arith)

pub product_at-p-requires : goal.product_at-p-requires
product_at-p-requires c =
    let i = get_or c.args.order.now c.loop-k.k 0 in
    let l = order_below c.requires.0.each c.loop-k.k c.loop-k-test.true in
    (c.requires.0.held i c.args.j l c.requires.1, (l, c.requires.0.light i c.args.j l c.requires.1))

pub loop-k-preserved : goal.loop-k-preserved
loop-k-preserved c =
    let L = c.loop-k in
    let l = c.args.order.now in
    let p : ℕ → ℤ = product_at c.args.t.now c.args.apart c.args.j c.args.x.now in
    let more : L.k < length l = c.loop-k-test.true in
    let e : (L.held + c.product_at-p.result) % 2 ^ 32 ≡ (L.held + wrap (p (get_or l L.k 0))) % 2 ^ 32
    = ap (λ (b : ℕ). (L.held + b) % 2 ^ 32) c.product_at-p.ensures.0 in (
      ap (λ (h : ℕ). adder h (drop (L.k + 1) l) p) (c.wrapping_add_u32-held.ensures.value ∙ e) ∙ sym (adder-on l p L.held L.k more) ∙ L.invariant.0,
      omega (arith, over-on l (λ i. nat_abs (p i)) L.k more, c.product_at-p.ensures.1, L.invariant.1),
    )

pub returns : goal.returns
returns c =
    let L = c.loop-k in
    let l = c.args.order.now in
    let p : ℕ → ℤ = product_at c.args.t.now c.args.apart c.args.j c.args.x.now in
    let end : length l ≤ L.k = c.loop-k-test.false in (
      sym (adder-end l p L.held L.k end) ∙ L.invariant.0,
      sum-size c.requires.0.each p (length c.args.x.now * 2981888)
          (omega (arith, L.invariant.1, L.auto.k-end, over-end l (λ i. nat_abs (p i)) L.k end, c.requires.0.each.long)),
    )
