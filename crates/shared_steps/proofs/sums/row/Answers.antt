-- `sums::row` meets its contract. Assumes nothing.
use Rattle.std.proofs.Common.{rules, arith, ◌≡◌, ◌≤◌, ◌%◌, ℤ, ◌+ℤ◌, ◌*ℤ◌, nat_abs, to_z, of_z, sym, ap, subst, ◌∙◌}
use mathlib.Core.Bool.{◌&&◌}
use lib.Dec.{eqb}
use mir.Syntax.{w16, w32}
use mir.ValLaws.{to_z-of_z}
use Rattle.algebra.specs.Lists.{at}
use Rattle.algebra.proofs.Lists.{fill_none, fill-first}
use Rattle.meaning.specs.Weights.{S, signed}
use Rattle.meaning.proofs.Sizes.{S-size}
use Rattle.shared_steps.specs.Lines.{used}
use Rattle.shared_steps.proofs.Reading.{read_back, read_small}
use Rattle.shared_steps.proofs.Adding.{row_done}
use Rattle.shared_steps.proofs.sums.row.Goals as goal
use Rattle.shared_steps.proofs.sums.row.Goals.{After-sign_of_input-v, In-loop-g, After-stored}

-- the input as it is used
value : (c : After-sign_of_input-v) →
    (to_z w32 (of_z w32 c.sign_of_input-v.result) ≡ used c.args.change c.args.x.now c.args.i) × (nat_abs (to_z w32 (of_z w32 c.sign_of_input-v.result)) ≤ 32768)
value c =
    let b = c.args.change && eqb (c.args.i % 2) 1 in
    let h = c.sign_of_input-v.ensures.1 in (
      read_back c.sign_of_input-v.result 32768 h (omega arith) ∙ c.sign_of_input-v.ensures.0
          ∙ ap (signed b) (to_z-of_z w16 (at c.args.x.now c.args.i) (search rules)),
      read_small c.sign_of_input-v.result 32768 h (omega arith),
    )

-- the sum, which the loop has not reached
summed : (c : In-loop-g) →
    (to_z w32 (of_z w32 (at c.loop-g.a c.loop-g.g)) ≡ at c.args.a.now c.loop-g.g) × (nat_abs (at c.args.a.now c.loop-g.g) ≤ 94371840)
summed c =
    let g = c.loop-g.g in
    let h : nat_abs (at c.args.a.now g) ≤ 94371840 = omega (arith, c.requires.1.sums.small g c.loop-g-test.true, c.requires.0, c.requires.1.few) in
    (ap (λ (z : ℤ). to_z w32 (of_z w32 z)) (c.loop-g.invariant.after g (omega arith)) ∙ read_back (at c.args.a.now g) 94371840 h (omega arith), h)

weighs : (c : After-stored) → to_z w32 (of_z w32 c.stored.result) ≡ S c.args.n c.args.i c.loop-g.g
weighs c = to_z-of_z w32 c.stored.result (search rules) ∙ c.stored.ensures

pub loop-g-init : goal.loop-g-init
loop-g-init c = fill_none 0 _ _

pub mac-requires : goal.mac-requires
mac-requires c =
    let I = (goal.at.mac-requires c).In-loop-g in
    let v = (goal.at.mac-requires c).After-sign_of_input-v in (
      subst (λ (z : ℤ). nat_abs z ≤ 1000000000) (sym (summed I).0) (omega (arith, (summed I).1)),
      (subst (λ (z : ℤ). nat_abs z ≤ 90) (sym (weighs (goal.at.mac-requires c).After-stored)) (S-size c.args.n c.args.i c.loop-g.g), omega (arith, (value v).1)),
    )

pub loop-g-preserved : goal.loop-g-preserved
loop-g-preserved c =
    let I = (goal.at.loop-g-preserved c).In-loop-g in
    fill-first _ (omega (arith, c.loop-g-test.true, c.requires.1.sums.long)) c.loop-g.invariant
    (to_z-of_z w32 c.mac.result (search rules) ∙ c.mac.ensures
    ∙ (λ j. (summed I).0 j +ℤ weighs (goal.at.loop-g-preserved c).After-stored j *ℤ to_z w32 (of_z w32 c.sign_of_input-v.result)))

pub returns : goal.returns
returns c =
    let v = value (goal.at.returns c).After-sign_of_input-v in
    row_done _ c.requires.1 c.loop-g-test.false c.loop-g.invariant v.0 (subst (λ (z : ℤ). nat_abs z ≤ 32768) v.0 v.1)
