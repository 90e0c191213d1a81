use Rattle.std.proofs.Common.{rules, arith, ◌≡◌, refl, sym, ap, ◌∙◌, subst, ℕ, ◌+◌, ◌*◌, ◌-◌, ◌≤◌, ◌<◌, nat_abs, ℤ, to_z, of_z}
use mir.Syntax.{w32}
use mir.ValLaws.{to_z-of_z}
use borrow.Author.Count.{below_more}
use Rattle.algebra.specs.Lists.{at}
use Rattle.algebra.proofs.Sum.{sum-cong}
use Rattle.product.specs.Product.{line_sum, pair_at}
use Rattle.product.proofs.Summing.{pairs-line}
use Rattle.kernel_steps.specs.Weighed.{pair_size, sum_size}
use Rattle.kernel_steps.proofs.Writing.{wrote_at}
use Rattle.kernel_steps.proofs.Summing.{small-total, output-pairs}
use Rattle.kernel_steps.proofs.some.Goals as goal

pub products-requires : goal.products-requires
products-requires c = (output-pairs c.loop-i.i c.requires.0 c.loop-i-test.true, refl)

pub loop-i-preserved : goal.loop-i-preserved
loop-i-preserved c =
    let s = c.args in
    let i = c.loop-i.i in
    let terms : ℕ → ℤ = pair_at s.a.now 0 2 s.b.now (2 * i) s.apart in
    let value : ℕ → ℤ = λ k. line_sum s.a.now 0 2 s.b.now s.apart s.pairs k in
    let line = pairs-line s.a.now 0 2 s.b.now s.apart i s.pairs in
    let summed : to_z w32 (of_z w32 c.total.result) ≡ value i =
    to_z-of_z w32 c.total.result (search rules) ∙ c.total.ensures ∙ sum-cong s.pairs (at c.products.new.s) terms (λ k h. (c.products.ensures k h).0) ∙ line in
    let size : nat_abs (value i) ≤ sum_size =
    subst (λ (z : ℤ). nat_abs z ≤ sum_size) line
    (small-total terms s.pairs c.requires.0.few (λ k h. let e = c.products.ensures k h in subst (λ (z : ℤ). nat_abs z ≤ pair_size) {y = terms k} e.0 e.1)) in
    let here : i ≡ s.j + (i - s.j) = omega arith in
    let more : i + 1 - s.j ≡ i - s.j + 1 = omega arith in (
      wrote_at _ _ _ here more (omega arith) c.loop-i.invariant.0 (summed ∙ ap value here),
      subst (λ (m : ℕ). (k : ℕ) → k < m → nat_abs (value (s.j + k)) ≤ sum_size) (sym more)
          (below_more (λ k. nat_abs (value (s.j + k)) ≤ sum_size) (i - s.j) c.loop-i.invariant.1 (subst (λ (m : ℕ). nat_abs (value m) ≤ sum_size) here size)),
    )
