-- `line` meets its contract. Assumes nothing.
use Rattle.std.proofs.Common.{rules, arith, ◌≡◌, ◌*◌, ◌≤◌, ℤ, nat_abs, length, to_z, of_z, refl, sym, ap, subst, ◌∙◌}
use mir.Syntax.{w32}
use mir.ValLaws.{to_z-of_z}
use Rattle.algebra.specs.Lists.{tabulate}
use Rattle.algebra.proofs.Sum.{sum-cong}
use Rattle.algebra.proofs.Lists.{fill_none, fill-first, filled-to}
use Rattle.product.specs.Product.{line_sum, shifted, pair_at, Column, Rounding}
use Rattle.product.proofs.Summing.{column, small-total, pairs-line}
use Rattle.product.proofs.line.Goals as goal
use Rattle.product.proofs.line.Goals.{In-loop-j, After-total}

pub loop-j-init : goal.loop-j-init
loop-j-init c = fill_none 0 _ _

-- what the pairs of output j are given
given : (c : In-loop-j) → Column c.args.pairs c.args.a.now c.args.p c.args.gap c.args.b.now (2 * c.loop-j.j) c.args.apart
given c = column c.args.a.now c.args.p c.args.gap c.args.b.now c.args.apart c.loop-j.j c.requires.0 (omega arith)

pub products-requires : goal.products-requires
products-requires c = (given (goal.at.products-requires c).In-loop-j, refl)

pub total-requires : goal.total-requires
total-requires c = (c.requires.0.few, λ k h. (c.products.ensures k h).1)

-- the sum of the pairs is the line's
summed : (c : After-total) → to_z w32 (of_z w32 c.total.result) ≡ line_sum c.args.a.now c.args.p c.args.gap c.args.b.now c.args.apart c.args.pairs c.loop-j.j
summed c =
    to_z-of_z w32 c.total.result (search rules) ∙ c.total.ensures ∙ sum-cong c.args.pairs _ _ (λ k h. (c.products.ensures k h).0)
    ∙ pairs-line c.args.a.now c.args.p c.args.gap c.args.b.now c.args.apart c.loop-j.j c.args.pairs

sum-size : (c : After-total) → nat_abs (line_sum c.args.a.now c.args.p c.args.gap c.args.b.now c.args.apart c.args.pairs c.loop-j.j) ≤ 95420416
sum-size c =
    subst (λ (z : ℤ). nat_abs z ≤ 95420416) (pairs-line c.args.a.now c.args.p c.args.gap c.args.b.now c.args.apart c.loop-j.j c.args.pairs)
    (small-total (pair_at c.args.a.now c.args.p c.args.gap c.args.b.now (2 * c.loop-j.j) c.args.apart) c.args.pairs c.requires.0.few
    (λ k h. let e = c.products.ensures k h in subst (λ (z : ℤ). nat_abs z ≤ 5963776) e.0 e.1))

pub round-requires : goal.round-requires
round-requires c = (
  subst (λ (z : ℤ). nat_abs z ≤ 1000000000) (sym (summed (goal.at.round-requires c).After-total)) (omega (arith, sum-size (goal.at.round-requires c).After-total)),
  subst (λ (z : ℤ). Rounding z c.args.shift) (sym (to_z-of_z w32 c.args.half c.ranges.half)) c.requires.1,
)

pub loop-j-preserved : goal.loop-j-preserved
loop-j-preserved c =
    fill-first _ (omega arith) c.loop-j.invariant
    (to_z-of_z w32 c.round.result (search rules) ∙ c.round.ensures ∙ ap (shifted (to_z w32 (of_z w32 c.args.half)) c.args.shift) (summed (goal.at.loop-j-preserved c).After-total))

pub returns : goal.returns
returns c =
    filled-to refl c.loop-j.auto.j-end c.loop-j-test.false c.loop-j.invariant
    ∙ ap (λ (z : ℤ). tabulate (length c.args.out.now) (λ j. shifted z c.args.shift (line_sum c.args.a.now c.args.p c.args.gap c.args.b.now c.args.apart c.args.pairs j)))
    (to_z-of_z w32 c.args.half c.ranges.half)
