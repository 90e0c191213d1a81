-- `zip` meets its contract. Assumes nothing.
use Rattle.std.proofs.Common.{arith, ◌≡◌, ℕ, ◌+◌, ◌*◌, ◌-◌, ◌≤◌, ◌<◌, length, take, drop, length-take, length-drop, subst}
use native.Mathlib.Nat.{add-mul, mul-le-mul_left}
use Rattle.algebra.proofs.Lists.{Rows, rows_none, rows_next, row_in}
use Rattle.layout.specs.Zip.{zipped_at}
use Rattle.layout.proofs.Zipping.{laid-rows}
use Rattle.layout.proofs.zip.zip.Goals as goal
use Rattle.layout.proofs.zip.zip.Goals.{In-loop-k}

-- the row of pairs is in z, and the two rows in c
inside : (c : In-loop-k) → c.loop-k.k * (2 * c.args.n) + 2 * c.args.n ≤ length c.args.z.now
inside c = omega (arith, c.requires.room, row_in (2 * c.args.n) c.loop-k-test.true)

there : (c : In-loop-k) → 2 * c.loop-k.k * c.args.w + c.args.w + c.args.w ≤ length c.args.c.now
there c =
    let l : 2 * c.loop-k.k + 1 < 2 * c.args.pairs = omega (arith, c.loop-k-test.true) in
    omega (arith, c.requires.there, row_in c.args.w l, add-mul (2 * c.loop-k.k) 1 c.args.w)

stretch : (c : In-loop-k) → let n = 2 * c.args.n in let k = c.loop-k.k * n in length (take (k + n - k) (drop k c.loop-k.z)) ≡ n
stretch c = simp (length-take, length-drop) (omega (arith, inside c))

pub overflow_mul-m : goal.overflow_mul-m
overflow_mul-m c = omega (arith, c.requires.room, row_in (2 * c.args.n) c.requires.some)

pub loop-k-init : goal.loop-k-init
loop-k-init c = rows_none _ _ _

pub overflow_mul-o : goal.overflow_mul-o
overflow_mul-o c = omega (arith, inside (goal.at.overflow_mul-o c).In-loop-k)

pub overflow_add-e : goal.overflow_add-e
overflow_add-e c = omega (arith, inside (goal.at.overflow_add-e c).In-loop-k)

pub overflow_mul-k : goal.overflow_mul-k
overflow_mul-k c =
    let l : 2 ≤ 2 * c.args.n = omega (arith, c.requires.wide) in
    omega (arith, inside (goal.at.overflow_mul-k c).In-loop-k, mul-le-mul_left c.loop-k.k l)

pub overflow_mul-k-in-loop-k : goal.overflow_mul-k-in-loop-k
overflow_mul-k-in-loop-k c = omega (arith, there (goal.at.overflow_mul-k-in-loop-k c).In-loop-k)

pub offset_bounds-z-o : goal.offset_bounds-z-o
offset_bounds-z-o c = omega (arith, inside (goal.at.offset_bounds-z-o c).In-loop-k)

pub slice_bounds-zip_row-end : goal.slice_bounds-zip_row-end
slice_bounds-zip_row-end c = omega (arith, inside (goal.at.slice_bounds-zip_row-end c).In-loop-k)

pub zip_row-requires : goal.zip_row-requires
zip_row-requires c =
    let I = (goal.at.zip_row-requires c).In-loop-k in
    (c.requires.narrow, (omega (arith, there I, c.requires.narrow), stretch I))

pub loop-k-preserved : goal.loop-k-preserved
loop-k-preserved c = rows_next c.loop-k.invariant c.zip_row.ensures

pub returns : goal.returns
returns c =
    let e : c.loop-k.k ≡ c.args.pairs = omega arith in
    laid-rows c.args.pairs c.args.n c.args.w c.args.c.now c.requires.room
    (subst (λ (k : ℕ). Rows (2 * c.args.n) k (λ q k. zipped_at c.args.c.now (2 * k * c.args.w) c.args.w q) c.loop-k.z c.args.z.now) e c.loop-k.invariant)
