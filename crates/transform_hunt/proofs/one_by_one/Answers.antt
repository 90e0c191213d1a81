-- `one_by_one` meets its contract: no number before row y is refused. Assumes nothing.
use native.Mathlib.Omega.{arith}
use mathlib.Core.Path.{◌≡◌, sym, subst}
use Prim.Native.Nat.{ℕ, ◌+◌, ◌*◌, ◌≤◌}
use native.Mathlib.Nat.{lt_of_lt_of_le}
use lib.ListN.{length}
use Rattle.algebra.proofs.Lists.{row_in}
use Rattle.long_stages.proofs.Finds.{is-found, not-found}
use Rattle.transform_hunt.specs.Hunt.{first_read}
use Rattle.transform_hunt.proofs.Hunting.{NoneTo, none_yet, next_row, none_at_all, found}
use Rattle.transform_hunt.proofs.one_by_one.Goals as goal
use Rattle.transform_hunt.proofs.one_by_one.Goals.{In-loop-y}

-- row y is in the numbers
inside : (c : In-loop-y) → c.loop-y.y * c.args.w + c.args.w ≤ length c.args.c.now
inside c = omega (arith, c.requires.long, row_in c.args.w (lt_of_lt_of_le c.loop-y-test.true c.requires.low))

pub loop-y-init : goal.loop-y-init
loop-y-init c = none_yet c.args.w c.args.columns c.args.rows c.args.reach c.args.c.now

pub overflow_mul-y : goal.overflow_mul-y
overflow_mul-y c = omega (arith, inside (goal.at.overflow_mul-y c).In-loop-y)

pub row_beyond-requires : goal.row_beyond-requires
row_beyond-requires c = (omega (arith, inside (goal.at.row_beyond-requires c).In-loop-y, c.requires.narrow), c.requires.far)

pub returns-in-Some : goal.returns-in-Some
returns-in-Some c =
    let a = c.args in
    let r = c.in-Some.ensures in
    let e : first_read a.w a.columns a.rows a.reach a.c.now ≡ c.in-Some.k =
    found a.w c.requires.high a.columns a.rows a.reach a.c.now c.requires.long c.loop-y.y c.in-Some.k r.1 r.0 c.requires.narrow c.loop-y-test.true c.requires.low c.loop-y.invariant in
    is-found (length a.c.now) (first_read a.w a.columns a.rows a.reach a.c.now) c.in-Some.k (sym e)
    (omega (arith, inside (goal.at.returns-in-Some c).In-loop-y, c.requires.narrow, r.0))

pub loop-y-preserved : goal.loop-y-preserved
loop-y-preserved c =
    let a = c.args in
    next_row a.w c.requires.high a.columns a.rows a.reach a.c.now c.requires.long c.loop-y.y (c.loop-y.y * a.w + a.columns) c.in_default.ensures (omega arith) c.loop-y.invariant

pub returns : goal.returns
returns c =
    let a = c.args in
    let e : c.loop-y.y ≡ a.rows = omega arith in
    let l : first_read a.w a.columns a.rows a.reach a.c.now ≡ length a.c.now =
    none_at_all a.w c.requires.high a.columns a.rows a.reach a.c.now c.requires.long (subst (λ (y : ℕ). NoneTo a.w a.columns a.rows a.reach a.c.now y) e c.loop-y.invariant) in
    not-found (length a.c.now) (first_read a.w a.columns a.rows a.reach a.c.now) (omega arith)
