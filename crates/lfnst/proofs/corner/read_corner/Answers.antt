use Rattle.std.proofs.Common.{rules, arith, ◌≡◌, ◌∙◌, cond, ◌&&◌, ◌+◌, ◌*◌, ◌/◌, ◌%◌, ◌≤◌, ◌<◌, ltb, pos, length, w32, to_z, of_z, to_z-of_z}
use native.Mathlib.Nat.{mul-le-mul_right}
use Rattle.algebra.specs.Lists.{at}
use Rattle.algebra.proofs.Lists.{fill_none, fill-first, filled-to}
use Rattle.lfnst.specs.Work.{corner_at}
use Rattle.lfnst.proofs.corner.read_corner.Goals as goal
use Rattle.lfnst.proofs.corner.read_corner.Goals.{In-loop-k}

-- the row is one of the first four, and the number is there
row : (c : goal.In-loop-k) → c.loop-k.k / 4 * c.args.w ≤ 3 * c.args.w
row c =
    let l : c.loop-k.k / 4 ≤ 3 = omega (arith, c.loop-k-test.true) in
    mul-le-mul_right c.args.w l

there : (c : goal.In-loop-k) → c.loop-k.k % 4 + c.loop-k.k / 4 * c.args.w < length c.args.numbers.now
there c = omega (arith, row c, c.requires.0, c.requires.1.1.0)

read : (c : goal.After-kept)
    → let s = c.args in let k = c.loop-k.k in
    cond (ltb (k % 4) s.columns && ltb (k / 4) s.rows) (to_z w32 (of_z w32 (at s.numbers.now (k % 4 + k / 4 * s.w)))) (pos 0) ≡ corner_at s.w s.columns s.rows s.numbers.now (k % 4) (k / 4)
read c =
    let s = c.args in
    let k = c.loop-k.k in
    (λ i. cond (ltb (k % 4) s.columns && ltb (k / 4) s.rows) (to_z-of_z {w = w32} {z = at s.numbers.now (k % 4 + k / 4 * s.w)} (search rules) i) (pos 0))

pub loop-k-init : goal.loop-k-init
loop-k-init c = fill_none 0 _ _

pub overflow_mul-y : goal.overflow_mul-y
overflow_mul-y c = omega (arith, row (goal.at.overflow_mul-y c).In-loop-k)

pub overflow_add-x : goal.overflow_add-x
overflow_add-x c = omega (arith, there (goal.at.overflow_add-x c).In-loop-k)

pub bounds-numbers-x : goal.bounds-numbers-x
bounds-numbers-x c = there (goal.at.bounds-numbers-x c).In-loop-k

pub loop-k-preserved : goal.loop-k-preserved
loop-k-preserved c =
    fill-first _ (omega (arith, c.requires.1.1.1, c.loop-k-test.true)) c.loop-k.invariant
    (to_z-of_z {w = w32} (search rules) ∙ c.kept.ensures ∙ read c)

pub returns : goal.returns
returns c = filled-to c.requires.1.1.1 (search rules) c.loop-k-test.false c.loop-k.invariant
