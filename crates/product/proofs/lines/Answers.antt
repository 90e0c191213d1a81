-- `lines` meets its contract. Assumes nothing.
use Rattle.std.proofs.Common.{arith, ◌≡◌, ℕ, ◌+◌, ◌*◌, ◌-◌, ◌≤◌, ℤ, length, take, drop, ◌++◌, length-take, length-drop, to_z, of_z, sym, ap, subst, ◌∙◌}
use mir.Syntax.{w32}
use mir.ValLaws.{to_z-of_z}
use Rattle.algebra.specs.Lists.{tabulate, block}
use Rattle.algebra.proofs.Lists.{rows_none, rows_next, row_in}
use Rattle.product.specs.Product.{line_sum, shifted, Line, Rounding}
use Rattle.product.proofs.lines.Goals as goal
use Rattle.product.proofs.lines.Goals.{In-loop-l}

-- the stretch of line l is in `out`, and its inputs in `a`
inside : (c : In-loop-l) → c.loop-l.l * c.args.n + c.args.n ≤ length c.args.out.now
inside c = omega (arith, c.requires.1.1, row_in c.args.n c.loop-l-test.true)

given : (c : In-loop-l) → Line c.args.n c.args.pairs c.args.a.now (c.args.step * c.loop-l.l) c.args.gap c.args.b.now c.args.apart
given c = c.requires.0.each c.loop-l.l c.loop-l-test.true

-- how long the stretch is
stretch : (c : In-loop-l) → let n = c.args.n in let k = c.loop-l.l * n in length (take (k + n - k) (drop k c.loop-l.out)) ≡ n
stretch c = simp (length-take, length-drop) (omega (arith, inside c))

pub loop-l-init : goal.loop-l-init
loop-l-init c = rows_none _ _ _

pub overflow_mul-q : goal.overflow_mul-q
overflow_mul-q c = omega (arith, inside (goal.at.overflow_mul-q c).In-loop-l)

pub overflow_add-e : goal.overflow_add-e
overflow_add-e c = omega (arith, inside (goal.at.overflow_add-e c).In-loop-l)

pub overflow_mul-step : goal.overflow_mul-step
overflow_mul-step c = omega (arith, (given (goal.at.overflow_mul-step c).In-loop-l).there 0 (omega (arith, c.requires.0.some)))

pub offset_bounds-out-q : goal.offset_bounds-out-q
offset_bounds-out-q c = omega (arith, inside (goal.at.offset_bounds-out-q c).In-loop-l)

pub slice_bounds-line-end : goal.slice_bounds-line-end
slice_bounds-line-end c = omega (arith, inside (goal.at.slice_bounds-line-end c).In-loop-l)

pub line-requires : goal.line-requires
line-requires c =
    let I = (goal.at.line-requires c).In-loop-l in (
      subst (λ (n : ℕ). Line n c.args.pairs c.args.a.now (c.args.step * c.loop-l.l) c.args.gap c.args.b.now c.args.apart) (sym (stretch I)) (given I),
      subst (λ (z : ℤ). Rounding z c.args.shift) (sym (to_z-of_z w32 c.args.half c.ranges.half)) c.requires.1.0,
    )

pub loop-l-preserved : goal.loop-l-preserved
loop-l-preserved c =
    rows_next c.loop-l.invariant
    (c.line.ensures
    ∙ ap (λ (n : ℕ). tabulate n (λ j. shifted (to_z w32 (of_z w32 c.args.half)) c.args.shift (line_sum c.args.a.now (c.args.step * c.loop-l.l) c.args.gap c.args.b.now c.args.apart c.args.pairs j)))
    (stretch (goal.at.loop-l-preserved c).In-loop-l))

pub returns : goal.returns
returns c =
    let e : c.loop-l.l ≡ c.args.lines = omega arith in
    c.loop-l.invariant.are
    ∙ ap (λ (l : ℕ). block c.args.n l (λ j l. shifted (to_z w32 (of_z w32 c.args.half)) c.args.shift (line_sum c.args.a.now (c.args.step * l) c.args.gap c.args.b.now c.args.apart c.args.pairs j)) ++ drop (l * c.args.n) c.args.out.now) e
    ∙ ap (λ (z : ℤ). block c.args.n c.args.lines (λ j l. shifted z c.args.shift (line_sum c.args.a.now (c.args.step * l) c.args.gap c.args.b.now c.args.apart c.args.pairs j)) ++ drop (c.args.lines * c.args.n) c.args.out.now)
    (to_z-of_z w32 c.args.half c.ranges.half)
