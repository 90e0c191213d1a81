-- `middle_row` meets its contract: the columns before x are done and counted. Assumes nothing.
use borrow.Author.Rules.{rules}
use native.Mathlib.Omega.{arith}
use mathlib.Core.Path.{◌≡◌, refl, ap, ◌∙◌}
use Prim.Native.Nat.{ℕ, ◌≤◌}
use lib.ListN.{length}
use lib.IntN.{ℤ}
use mir.Syntax.{w32, w64}
use mir.Val.{to_z, of_z}
use mir.ValLaws.{to_z-of_z}
use Rattle.algebra.specs.Sum.{sumℕ}
use Rattle.algebra.specs.Shift.{nearest}
use Rattle.algebra.specs.Clip.{clip}
use Rattle.algebra.proofs.Sum.{sumℕ-next}
use Rattle.algebra.proofs.Lists.{fill_none, fill-first, filled-to}
use Rattle.meaning.specs.Plan.{range_of}
use Rattle.meaning.specs.Inverse.{rounded, middle, railed, count}
use Rattle.meaning.proofs.NoRails.{count-in}
use Rattle.long_stages.specs.Work.{column_at, rail_of}
use Rattle.long_stages.proofs.Rails.{none_yet, sum-in}
use Rattle.long_stages.proofs.stages.middle_row.Goals as goal
use Rattle.long_stages.proofs.stages.middle_row.Goals.{After-rail-rails}

-- what the body has made of column x
module _ (c : After-rail-rails) where
  abbrev e : ℕ → ℤ
  e x = column_at c.args.t.now c.args.h c.args.c.now c.args.w c.args.pairs x c.args.y

  abbrev r : ℕ → ℕ
  r x = rail_of c.args.reach (e x)

  before-is : to_z w64 (of_z w64 c.rounded-before.result) ≡ rounded (e c.loop-x.x)
  before-is = to_z-of_z w64 c.rounded-before.result (search rules) ∙ c.rounded-before.ensures ∙ ap (nearest 7) (to_z-of_z w64 c.dot.result (search rules) ∙ c.dot.ensures.0)

  after_is : to_z w32 (of_z w32 c.clipped-after.result) ≡ middle (range_of c.args.reach) (e c.loop-x.x)
  after_is = to_z-of_z w32 c.clipped-after.result (search rules) ∙ c.clipped-after.ensures ∙ ap (clip (range_of c.args.reach)) before-is

  rail-is : c.rail-rails.result ≡ r c.loop-x.x
  rail-is = c.rail-rails.ensures ∙ (λ i. count (railed (before-is i) (after_is i)))

  -- at most one for each column
  at-most : (x : ℕ) → r x ≤ 1
  at-most x = count-in (railed (rounded (e x)) (middle (range_of c.args.reach) (e x)))

pub loop-x-init : goal.loop-x-init
loop-x-init c = (fill_none 0 _ _, none_yet (λ x. rail_of c.args.reach (column_at c.args.t.now c.args.h c.args.c.now c.args.w c.args.pairs x c.args.y)))

pub overflow_add-rails : goal.overflow_add-rails
overflow_add-rails c =
    let I = (goal.at.overflow_add-rails c).After-rail-rails in
    omega (arith, c.loop-x.invariant.1, sum-in c.loop-x.x (r I) 1 (at-most I), c.requires.0.narrow, rail-is I, at-most I c.loop-x.x)

pub loop-x-preserved : goal.loop-x-preserved
loop-x-preserved c =
    let I = (goal.at.loop-x-preserved c).After-rail-rails in
    (fill-first _ c.loop-x-test.true c.loop-x.invariant.0 (after_is I), omega (arith, c.loop-x.invariant.1, rail-is I, sumℕ-next c.loop-x.x (r I)))

pub returns : goal.returns
returns c =
    let end : c.loop-x.x ≡ length c.args.m.now = omega arith in (
      filled-to refl (omega arith) (omega arith) c.loop-x.invariant.0,
      c.loop-x.invariant.1 ∙ ap (λ (n : ℕ). sumℕ n (λ x. rail_of c.args.reach (column_at c.args.t.now c.args.h c.args.c.now c.args.w c.args.pairs x c.args.y))) end,
    )
