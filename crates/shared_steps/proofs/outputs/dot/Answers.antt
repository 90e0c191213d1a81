-- `outputs::dot` meets its contract. Assumes nothing.
use Rattle.std.proofs.Common.{rules, arith, ◌≡◌, ◌+◌, ◌*◌, ◌≤◌, ℤ, ◌+ℤ◌, ◌*ℤ◌, nat_abs, to_z, of_z, sym, ap, subst, ◌∙◌}
use mir.Syntax.{w32}
use mir.ValLaws.{to_z-of_z}
use Rattle.algebra.specs.Lists.{at}
use Rattle.meaning.specs.Weights.{S}
use Rattle.meaning.proofs.Sizes.{S-size}
use Rattle.shared_steps.proofs.Reading.{read_back, read_small}
use Rattle.shared_steps.proofs.Dots.{grown, none_yet, next}
use Rattle.shared_steps.proofs.outputs.dot.Goals as goal
use Rattle.shared_steps.proofs.outputs.dot.Goals.{In-loop-g, After-stored}

weighs : (c : After-stored) → to_z w32 (of_z w32 c.stored.result) ≡ S c.args.n c.args.i c.loop-g.g
weighs c = to_z-of_z w32 c.stored.result (search rules) ∙ c.stored.ensures

counts : (c : In-loop-g) → nat_abs (at c.args.t.now c.loop-g.g) ≤ 425984
counts c = c.requires.1.1.1.1.1.small c.loop-g.g c.loop-g-test.true

pub loop-g-init : goal.loop-g-init
loop-g-init c = (sym (none_yet c.args.n c.args.t.now c.args.i), omega arith)

pub mac-sum-requires : goal.mac-sum-requires
mac-sum-requires c =
    let I = (goal.at.mac-sum-requires c).In-loop-g in (
      omega (arith, c.loop-g.invariant.1, c.loop-g-test.true, c.requires.1.1.1.0),
      (
        subst (λ (z : ℤ). nat_abs z ≤ 90) (sym (weighs (goal.at.mac-sum-requires c).After-stored)) (S-size c.args.n c.args.i c.loop-g.g),
        read_small (at c.args.t.now c.loop-g.g) 425984 (counts I) (omega arith),
      ),
    )

pub loop-g-preserved : goal.loop-g-preserved
loop-g-preserved c =
    let t = c.args.t.now in
    let g = c.loop-g.g in
    let I = counts (goal.at.loop-g-preserved c).In-loop-g in
    let w = weighs (goal.at.loop-g-preserved c).After-stored in
    let so = to_z w32 c.loop-g.sum-bits in
    let e : to_z w32 (of_z w32 c.mac-sum.result) ≡ so +ℤ S c.args.n c.args.i g *ℤ at t g =
    to_z-of_z w32 c.mac-sum.result (search rules) ∙ c.mac-sum.ensures
    ∙ (λ j. so +ℤ w j *ℤ read_back (at t g) 425984 I (omega arith) j) in (
      e ∙ ap (λ (z : ℤ). z +ℤ S c.args.n c.args.i g *ℤ at t g) c.loop-g.invariant.0 ∙ sym (next c.args.n t c.args.i g),
      subst (λ (z : ℤ). nat_abs z ≤ (g + 1) * (90 * 425984)) (sym e)
          (grown 425984 so (S c.args.n c.args.i g) (at t g) g c.loop-g.invariant.1 (S-size c.args.n c.args.i g) I),
    )
