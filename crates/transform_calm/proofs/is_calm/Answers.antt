-- `is_calm` meets its contract: the rows before y are added. Assumes nothing.
use native.Mathlib.Omega.{arith}
use mathlib.Core.Path.{◌≡◌, sym, ap, ◌∙◌, subst}
use Prim.Native.Nat.{ℕ, ◌+◌, ◌*◌, ◌-◌, ◌≤◌}
use native.Mathlib.Nat.{add_comm}
use lib.Dec.{leb}
use lib.IntN.{ℤ, nat_abs}
use lib.ListN.{length, take, drop}
use Rattle.algebra.specs.Sum.{sumℕ}
use Rattle.algebra.specs.Lists.{at}
use Rattle.algebra.proofs.Sum.{sumℕ-next, sumℕ-cong}
use Rattle.algebra.proofs.Lists.{row_in, part_in}
use Rattle.transform_calm.specs.Calm.{read_sizes}
use Rattle.transform_calm.proofs.Calm.{sums_none, lent_at}
use Rattle.transform_calm.proofs.is_calm.Goals as goal
use Rattle.transform_calm.proofs.is_calm.Goals.{In-loop-y}

-- row y is there
row : (c : In-loop-y) → c.loop-y.y * c.args.w + c.args.columns ≤ length c.args.c.now
row c = omega (arith, row_in {y = c.loop-y.y} {h = c.args.rows} c.args.w c.loop-y-test.true, c.requires.0.0, c.requires.1.0)

pub loop-y-init : goal.loop-y-init
loop-y-init c = (sym (sums_none (λ y. sumℕ c.args.columns (λ x. nat_abs (at c.args.c.now (x + y * c.args.w))))), omega arith)

pub row_size-sum-requires : goal.row_size-sum-requires
row_size-sum-requires c =
    let I = (goal.at.row_size-sum-requires c).In-loop-y in
    let a = c.args in
    let k = c.loop-y.y * a.w in
    let e : length (take (k + a.columns - k) (drop k a.c.now)) ≡ a.columns = part_in a.c.now k a.columns (row I) in (
      λ x h. subst (λ (z : ℤ). nat_abs z ≤ 1048576) (sym (lent_at a.c.now k a.columns x (omega (arith, e, h)) ∙ ap (at a.c.now) (add_comm k x))) (c.requires.1.1 x c.loop-y.y (omega (arith, e, h)) c.loop-y-test.true),
      omega (arith, e, c.requires.0.1.0),
    )

pub overflow_add-sum : goal.overflow_add-sum
overflow_add-sum c = omega (arith, c.loop-y.invariant.1, c.row_size-sum.ensures.1, c.requires.0.1.1)

pub loop-y-preserved : goal.loop-y-preserved
loop-y-preserved c =
    let I = (goal.at.loop-y-preserved c).In-loop-y in
    let a = c.args in
    let y = c.loop-y.y in
    let k = y * a.w in
    let e : length (take (k + a.columns - k) (drop k a.c.now)) ≡ a.columns = part_in a.c.now k a.columns (row I) in
    let n : c.row_size-sum.result ≡ sumℕ a.columns (λ x. nat_abs (at a.c.now (x + k))) =
    c.row_size-sum.ensures.0
    ∙ ap (λ (n : ℕ). sumℕ n (λ x. nat_abs (at (take (k + a.columns - k) (drop k a.c.now)) x))) e
    ∙ sumℕ-cong a.columns _ _ (λ x h. ap nat_abs (lent_at a.c.now k a.columns x h ∙ ap (at a.c.now) (add_comm k x))) in
    (omega (arith, c.loop-y.invariant.0, n, sumℕ-next y (λ y. sumℕ a.columns (λ x. nat_abs (at a.c.now (x + y * a.w))))), omega (arith, c.loop-y.invariant.1, c.row_size-sum.ensures.1))

pub returns : goal.returns
returns c =
    let e : c.loop-y.y ≡ c.args.rows = omega arith in
    ap (λ (n : ℕ). leb n 32767) (c.loop-y.invariant.0 ∙ ap (λ (n : ℕ). read_sizes c.args.w c.args.columns n c.args.c.now) e)
