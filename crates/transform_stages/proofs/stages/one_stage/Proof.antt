-- `one_stage` meets its contract: the line of the first numbers. Assumes nothing.
use borrow.Author.Rules.{rules}
use native.Mathlib.Omega.{arith}
use mathlib.Core.Path.{◌≡◌, sym, ap, ◌∙◌, subst}
use mathlib.Core.List.{List}
use Prim.Native.Nat.{ℕ, ◌+◌, ◌*◌, ◌/◌, ◌<◌}
use lib.ListN.{length}
use lib.IntN.{ℤ}
use mir.Syntax.{w32}
use mir.Val.{SFits}
use Rattle.algebra.specs.Shift.{nearest}
use Rattle.algebra.proofs.Lists.{tab-cong}
use Rattle.meaning.proofs.Cases.{line-in}
use Rattle.long_stages.specs.Sums.{dotted}
use Rattle.transform_stages.specs.Work.{rounded_sum}
use Rattle.transform_stages.proofs.Copying.{line-long}
use Rattle.transform_stages.proofs.OneRow.{row-given}
use Rattle.transform_stages.proofs.Whole.{pairs-few, odd-held, whole-line, line-fits}
use Rattle.transform_stages.proofs.stages.one_stage.Statement.{statement}
use Rattle.transform_stages.proofs.stages.one_stage.Tie as tie

line-of-requires : tie.Need-line_of-line-requires
line-of-requires c κs = let g = c.requires.0 in (omega (arith, g.few), omega (arith, g.few, g.long))

weights-requires : tie.Need-weights-requires
weights-requires c κs = let s = c in (s.requires.0.line, s.requires.1)

line-32 : (c : tie.After-line_of-line) → length c.line_of-line.result ≡ 32
line-32 c = let a = c.before.args in ap length c.line_of-line.ensures ∙ line-long a.numbers.now 0 a.count

slice-aggregate-residual-row : tie.Need-slice_bounds-residual_row-end-2
slice-aggregate-residual-row c = sym (line-32 c.before.before.before.before.before.before)

add-residual-row : tie.Need-overflow_add-k
add-residual-row c = search rules

abbrev given : tie.After-weights → tie.Start
given c = c.before.before.before.before

-- each sum is that of the line
sum_is : (c : tie.After-weights) (j : ℕ) → let a = (given c).args in j < a.n
    → nearest a.last (dotted c.weights.new.u (2 * j) (2 * a.n) c.before.before.before.line_of-line.result 0 1 ((a.count + 1) / 2)) ≡ rounded_sum a.kind a.n a.count a.last a.numbers.now j
sum_is c j h =
    let s = given c in
    let a = s.args in
    ap (nearest a.last)
    (ap (λ (line : List ℤ). dotted c.weights.new.u (2 * j) (2 * a.n) line 0 1 ((a.count + 1) / 2)) c.before.before.before.line_of-line.ensures
    ∙ whole-line a.kind a.n a.count s.requires.0.line s.requires.0.few c.weights.ensures.1.1 a.numbers.now j h)

residual-row-requires : tie.Need-residual_row-requires
residual-row-requires c κs =
    let W = c.before.before.before.before in
    let s = given W in
    let a = s.args in (
      row-given a.n ((a.count + 1) / 2) a.last (line-in a.kind a.n s.requires.0.line) (pairs-few a.kind a.n a.count s.requires.0.line s.requires.0.few W.weights.ensures.1.1)
          (omega (arith, s.requires.0.some)) s.requires.0.short (line-32 W.before.before.before) (odd-held a.kind a.n a.count s.requires.0.line s.requires.0.few W.weights.ensures.1.1)
          (λ x l. subst (SFits w32) (sym (sum_is W x l)) (line-fits a.kind a.n a.count a.last a.numbers.now s.requires.0 x l)),
      (omega arith, s.requires.0.long),
    )

same_length : tie.Need-shape_of-numbers
same_length c = search rules

returns : tie.Need-returns
returns c =
    let W = c.before.before.before.before.before.before in
    let a = (given W).args in
    c.before.residual_row.ensures ∙ tab-cong a.n _ (rounded_sum a.kind a.n a.count a.last a.numbers.now) (sum_is W)

pub one_stage_spec : {M : Type 1} → statement M
one_stage_spec =
    tie.close
    (tie.spec
    line-of-requires
    weights-requires
    slice-aggregate-residual-row
    add-residual-row
    residual-row-requires
    same_length
    returns)
