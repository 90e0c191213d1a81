-- `stages` meets its contract: by the side that is 2. Assumes nothing.
use borrow.Author.Rules.{rules}
use native.Mathlib.Omega.{arith}
use mathlib.Core.Path.{◌≡◌, refl, sym, ap, ◌∙◌, subst}
use mathlib.Core.Logic.{⊎_elim}
use mathlib.Core.List.{List}
use Prim.Native.Nat.{ℕ, ◌<◌}
use lib.IntN.{ℤ}
use Rattle.meaning.specs.Plan.{Plan}
use Rattle.meaning.specs.Inverse.{rails, inverse_block}
use Rattle.transform_line.proofs.Side.{above-two, kind-of-two}
use Rattle.transform_pairs.specs.Pairs.{short_plan}
use Rattle.transform_two.specs.Two.{GivenSides}
use Rattle.transform_two.proofs.Both.{block-long}
use Rattle.transform_two.proofs.stages.stages.Statement.{statement}
use Rattle.transform_two.proofs.stages.stages.Tie as tie

-- ---- the plan by the side that is 2
abbrev plan : tie.Start → Plan
plan s = short_plan s.args.w s.args.h s.args.horizontal s.args.vertical s.args.columns s.args.rows s.args.last

-- a side of 2 is of kind 0
across : (s : tie.Start) → s.args.w ≡ 2 → s.args.horizontal ≡ 0
across s e = kind-of-two s.args.horizontal s.args.w s.requires.0.pairs.sized.along e

downward : (s : tie.Start) → s.args.h ≡ 2 → s.args.vertical ≡ 0
downward s e = kind-of-two s.args.vertical s.args.h s.requires.0.pairs.sized.down e

other : (s : tie.Start) → (s.args.w ≡ 2 → ⊥) → s.args.h ≡ 2
other s n = ⊎_elim (λ e. absurd (n e)) (λ e. e) s.requires.1

square-plan : (s : tie.Start) → s.args.w ≡ 2 → s.args.h ≡ 2 → plan s ≡ short_plan 2 2 0 0 s.args.columns s.args.rows s.args.last
square-plan s e d i = short_plan (e i) (d i) (across s e i) (downward s d i) s.args.columns s.args.rows s.args.last

upright-plan : (s : tie.Start) → s.args.w ≡ 2 → plan s ≡ short_plan 2 s.args.h 0 s.args.vertical s.args.columns s.args.rows s.args.last
upright-plan s e i = short_plan (e i) s.args.h (across s e i) s.args.vertical s.args.columns s.args.rows s.args.last

lying-plan : (s : tie.Start) → s.args.h ≡ 2 → plan s ≡ short_plan s.args.w 2 s.args.horizontal 0 s.args.columns s.args.rows s.args.last
lying-plan s d i = short_plan s.args.w (d i) s.args.horizontal (downward s d i) s.args.columns s.args.rows s.args.last

given : (s : tie.Start) (p : Plan) → plan s ≡ p → GivenSides p s.args.numbers.now
given s p e = subst (λ (p : Plan). GivenSides p s.args.numbers.now) e s.requires.0

back : (s : tie.Start) (p : Plan) → plan s ≡ p → {r : ℕ} {o : List ℤ} → (r ≡ rails p s.args.numbers.now) × (o ≡ inverse_block p s.args.numbers.now)
    → (r ≡ rails (plan s) s.args.numbers.now) × (o ≡ inverse_block (plan s) s.args.numbers.now)
back s p e q = (q.0 ∙ ap (λ (p : Plan). rails p s.args.numbers.now) (sym e), q.1 ∙ ap (λ (p : Plan). inverse_block p s.args.numbers.now) (sym e))

square-requires : tie.Need-square-requires
square-requires c κs = let s = c.before.before.before in given s _ (square-plan s c.before.before.if-w-eq2.true c.before.if-h-eq2.true)

returns : tie.Need-returns-then-h-eq2
returns c = let s = c.before.before.before.before.before in back s _ (square-plan s c.before.before.before.before.if-w-eq2.true c.before.before.before.if-h-eq2.true) c.before.square.ensures

same_length : tie.Need-shape_of-numbers-then-h-eq2
same_length c = search rules

step-of-requires : tie.Need-step_of-requires
step-of-requires c κs = search rules

upright-requires : tie.Need-upright-requires
upright-requires c κs =
    let s = c.before.before.before.before in
    (given s _ (upright-plan s c.before.before.before.if-w-eq2.true), (above-two s.args.vertical s.args.h s.requires.0.pairs.sized.down c.before.before.if-h-eq2.false, c.before.step_of.ensures))

returns-2 : tie.Need-returns-then-w-eq2
returns-2 c = let s = c.before.before.before.before.before.before in back s _ (upright-plan s c.before.before.before.before.before.if-w-eq2.true) c.before.upright.ensures

same-length-2 : tie.Need-shape_of-numbers-then-w-eq2
same-length-2 c = search rules

step-of-requires-2 : tie.Need-step_of-requires-2
step-of-requires-2 c κs = search rules

lying-requires : tie.Need-lying-requires
lying-requires c κs =
    let s = c.before.before.before in
    let n = c.before.before.if-w-eq2.false in
    (given s _ (lying-plan s (other s n)), (above-two s.args.horizontal s.args.w s.requires.0.pairs.sized.along n, c.before.step_of-2.ensures))

returns-3 : tie.Need-returns
returns-3 c = let s = c.before.before.before.before.before in back s _ (lying-plan s (other s c.before.before.before.before.if-w-eq2.false)) c.before.lying.ensures

same-length-3 : tie.Need-shape_of-numbers
same-length-3 c = search rules

pub stages_spec : {M : Type 1} → statement M
stages_spec =
    tie.close
    (tie.spec
    square-requires
    same_length
    returns
    step-of-requires
    upright-requires
    same-length-2
    returns-2
    step-of-requires-2
    lying-requires
    same-length-3
    returns-3)
