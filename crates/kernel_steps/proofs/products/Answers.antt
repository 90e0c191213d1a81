use Rattle.std.proofs.Common.{rules, arith, ◌≡◌, refl, ◌∙◌, subst, ◌+◌, ◌*◌, ◌≤◌, ◌+ℤ◌, ◌*ℤ◌, nat_abs, ℤ, to_z, of_z}
use mir.Syntax.{w32}
use borrow.Author.Count.{below_more}
use Rattle.algebra.specs.Lists.{at}
use Rattle.product.specs.Product.{pair_at}
use Rattle.kernel_steps.specs.Weighed.{pair_size}
use Rattle.kernel_steps.proofs.Writing.{wrote_at}
use Rattle.kernel_steps.proofs.Summing.{product-size, read-size, pair_size_lem}
use Rattle.kernel_steps.proofs.products.Goals as goal

pub pair-requires : goal.pair-requires
pair-requires c =
    let k = c.loop-k.k in
    let h = c.loop-k-test.true in
    let x = c.args.o + k * c.args.apart in (
      read-size (at c.args.b.now (x + 1)) (at c.args.a.now (2 * k + 1)) (c.requires.0.odd k h) (search rules),
      read-size (at c.args.b.now x) (at c.args.a.now (2 * k)) (c.requires.0.even k h) (search rules),
    )

pub loop-k-preserved : goal.loop-k-preserved
loop-k-preserved c =
    let k = c.loop-k.k in
    let h = c.loop-k-test.true in
    let x = c.args.o + k * c.args.apart in
    let w1 = at c.args.b.now (x + 1) in
    let w0 = at c.args.b.now x in
    let i1 = at c.args.a.now (2 * k + 1) in
    let i0 = at c.args.a.now (2 * k) in
    let place : 2 * k ≡ 0 + k * 2 = omega arith in
    let same : w1 *ℤ i1 +ℤ w0 *ℤ i0 ≡ pair_at c.args.a.now 0 2 c.args.b.now c.args.o c.args.apart k = λ t. w1 *ℤ at c.args.a.now (place t + 1) +ℤ w0 *ℤ at c.args.a.now (place t) in
    let size : nat_abs (w1 *ℤ i1 +ℤ w0 *ℤ i0) ≤ pair_size =
    pair_size_lem (w1 *ℤ i1) (w0 *ℤ i0) (product-size w1 i1 (c.requires.0.odd k h) (search rules)) (product-size w0 i0 (c.requires.0.even k h) (search rules)) in
    let read : to_z w32 (of_z w32 c.pair.result) ≡ w1 *ℤ i1 +ℤ w0 *ℤ i0 = search rules in (
      wrote_at _ _ _ (omega arith) refl (omega (arith, c.requires.1, c.requires.0.few)) c.loop-k.invariant.0 (read ∙ same),
      below_more (λ i. nat_abs (pair_at c.args.a.now 0 2 c.args.b.now c.args.o c.args.apart i) ≤ pair_size) k c.loop-k.invariant.1 (subst (λ (z : ℤ). nat_abs z ≤ pair_size) same size),
    )
