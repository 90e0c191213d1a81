-- `total` meets its contract. Assumes nothing.
use Rattle.std.proofs.Common.{rules, arith, ◌≡◌, ◌≤◌, ℤ, ◌+ℤ◌, nat_abs, to_z, of_z, sym, subst, ◌∙◌}
use mir.Syntax.{w32}
use mir.ValLaws.{to_z-of_z}
use Rattle.algebra.specs.Lists.{at}
use Rattle.algebra.proofs.Sum.{sum-next}
use Rattle.product.proofs.Summing.{sum-none-yet, small-total, small-pair}
use Rattle.product.proofs.total.Goals as goal
use Rattle.product.proofs.total.Goals.{In-loop-k}

pub loop-k-init : goal.loop-k-init
loop-k-init c = sum-none-yet (at c.args.s.now)

-- the next pair as it is read
reads : (c : In-loop-k) → let z = at c.args.s.now c.loop-k.k in to_z w32 (of_z w32 z) ≡ z
reads c = to_z-of_z w32 (at c.args.s.now c.loop-k.k) (small-pair (c.requires.1 c.loop-k.k c.loop-k-test.true))

pub plus-sum-requires : goal.plus-sum-requires
plus-sum-requires c = (
  subst (λ (z : ℤ). nat_abs z ≤ 1000000000) (sym c.loop-k.invariant) (omega (arith, small-total (at c.args.s.now) c.loop-k.k (omega (arith, c.requires.0)) (λ k h. c.requires.1 k (omega arith)))),
  subst (λ (z : ℤ). nat_abs z ≤ 1000000000) (sym (reads (goal.at.plus-sum-requires c).In-loop-k)) (omega (arith, c.requires.1 c.loop-k.k c.loop-k-test.true)),
)

pub loop-k-preserved : goal.loop-k-preserved
loop-k-preserved c =
    to_z-of_z w32 c.plus-sum.result (search rules) ∙ c.plus-sum.ensures ∙ (λ t. c.loop-k.invariant t +ℤ reads (goal.at.loop-k-preserved c).In-loop-k t)
    ∙ sym (sum-next c.loop-k.k (at c.args.s.now))
