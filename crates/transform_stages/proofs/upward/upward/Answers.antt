-- `upward` meets its contract: the rows from y on are done, and what stands before them is as it was. Assumes nothing.
use borrow.Author.Rules.{rules}
use native.Mathlib.Omega.{arith}
use mathlib.Core.Path.{◌≡◌, sym, ap, ◌∙◌, subst}
use mathlib.Core.List.{List}
use Prim.Native.Nat.{ℕ, ◌+◌, ◌*◌, ◌-◌, ◌≤◌, ◌<◌}
use native.Mathlib.Nat.{le_refl, mul-le-mul}
use lib.ListN.{length}
use lib.IntN.{ℤ}
use mir.Syntax.{w32}
use mir.Val.{SFits}
use Rattle.algebra.specs.Lists.{tabulate}
use Rattle.algebra.specs.Shift.{nearest}
use Rattle.algebra.proofs.Lists.{row_in, part_in, part_filled}
use Rattle.long_stages.specs.Sums.{dotted}
use Rattle.transform_stages.specs.Work.{line_from, residual_at}
use Rattle.transform_stages.proofs.Back.{Back, back_none, back-next, back-all, row_below}
use Rattle.transform_stages.proofs.Copying.{line_same, line-long}
use Rattle.transform_stages.proofs.OneRow.{row-given}
use Rattle.transform_stages.proofs.upward.upward.Goals as goal
use Rattle.transform_stages.proofs.upward.upward.Goals.{In-loop-y, After-line_of-line}

-- row y - 1 is in the numbers, and its middle values stand no further back than its residuals
inside : (c : In-loop-y) → (c.loop-y.y - 1) * c.args.w + c.args.w ≤ length c.args.m.now
inside c =
    let l : c.loop-y.y - 1 < c.args.h = omega arith in
    omega (arith, c.requires.room, row_in c.args.w l)

narrower : (c : In-loop-y) → (c.loop-y.y - 1) * c.args.columns ≤ (c.loop-y.y - 1) * c.args.w
narrower c = mul-le-mul (le_refl (c.loop-y.y - 1)) c.requires.within

-- the stretch of row y - 1 in the numbers as they stand
stretch : (c : In-loop-y) → (c.loop-y.y - 1) * c.args.w + c.args.w ≤ length c.loop-y.m
stretch c = omega (arith, inside c, c.loop-y.invariant.long)

-- the line of row y - 1 is as it was before any row was written
line-is : (c : After-line_of-line) → c.line_of-line.result ≡ line_from c.args.m.now ((c.loop-y.y - 1) * c.args.columns) c.args.columns
line-is c =
    let o = (c.loop-y.y - 1) * c.args.columns in
    c.line_of-line.ensures
    ∙ line_same c.loop-y.m c.args.m.now o c.args.columns
    (λ i h. c.loop-y.invariant.as_it_was (o + i) (omega (arith, mul-le-mul (le_refl (c.loop-y.y - 1)) c.requires.within, c.requires.within, row_below c.args.w c.loop-y-test.true)))

line-32 : (c : After-line_of-line) → length c.line_of-line.result ≡ 32
line-32 c = ap length (line-is c) ∙ line-long c.args.m.now _ c.args.columns

pub loop-y-init : goal.loop-y-init
loop-y-init c = back_none _ _ _ _

pub overflow_mul-y : goal.overflow_mul-y
overflow_mul-y c = let I = (goal.at.overflow_mul-y c).In-loop-y in omega (arith, inside I, narrower I)

pub line_of-line-requires : goal.line_of-line-requires
line_of-line-requires c = let I = (goal.at.line_of-line-requires c).In-loop-y in (c.requires.narrow, omega (arith, stretch I, narrower I, c.requires.within))

pub residual_row-requires : goal.residual_row-requires
residual_row-requires c =
    let K = (goal.at.residual_row-requires c).After-line_of-line in
    let I = (goal.at.residual_row-requires c).In-loop-y in
    let a = c.args in
    let y = c.loop-y.y - 1 in (
      row-given a.w a.pairs a.last c.requires.wide c.requires.few c.requires.some c.requires.short (line-32 K) c.requires.held
          (λ x l. subst (λ (line : List ℤ). SFits w32 (nearest a.last (dotted a.t.now (2 * x) (2 * a.w) line 0 1 a.pairs))) (sym (line-is K)) (c.requires.fits x y l (omega arith))),
      (omega arith, part_in c.loop-y.m (y * a.w) a.w (stretch I)),
    )

pub loop-y-preserved : goal.loop-y-preserved
loop-y-preserved c =
    let K = (goal.at.loop-y-preserved c).After-line_of-line in
    let I = (goal.at.loop-y-preserved c).In-loop-y in
    let a = c.args in
    let y = c.loop-y.y - 1 in
    let f : ℕ → ℤ = λ x. residual_at a.t.now a.w a.columns a.pairs a.last a.m.now x y in
    let made = c.residual_row.ensures
    ∙ ap (λ (line : List ℤ). tabulate a.w (λ x. nearest a.last (dotted a.t.now (2 * x) (2 * a.w) line 0 1 a.pairs))) (line-is K)
    ∙ ap (λ (n : ℕ). tabulate n f) (sym (part_in c.loop-y.m (y * a.w) a.w (stretch I))) in
    back-next c.loop-y.y (omega (arith, c.loop-y-test.true)) c.loop-y.invariant (part_filled c.loop-y.m _ (y * a.w) a.w f (stretch I) made)

pub returns : goal.returns
returns c = back-all (omega arith) c.requires.room c.loop-y.invariant
