-- `column_pairs` meets its contract: the columns from x on have nothing. Assumes nothing.
use native.Mathlib.Omega.{arith}
use mathlib.Core.Path.{◌≡◌, ap, ◌∙◌}
use mathlib.Core.List.{List}
use Prim.Native.Nat.{ℕ, ◌+◌, ◌*◌, ◌-◌, ◌≤◌, ◌<◌}
use native.Mathlib.Decide.{ℕ_discrete}
use lib.IntN.{ℤ, pos}
use Rattle.algebra.specs.Lists.{at}
use Rattle.meaning.proofs.Cases.{size_in}
use Rattle.long_stages.proofs.Ceil.{size-even}
use Rattle.long_stages.proofs.live.column_pairs.Goals as goal

-- from column k on
abbrev None : List ℤ → ℕ → ℕ → ℕ → Type 0
None c w rows k = (x i : ℕ) → k ≤ x → x < w → i < rows → at c (x + i * w) ≡ pos 0

-- one column more
none_before : (l : List ℤ) (w rows k : ℕ) → 0 < k → ((i : ℕ) → i < rows → at l (k - 1 + i * w) ≡ pos 0) → None l w rows k → None l w rows (k - 1)
none_before l w rows k p z f x i h g q = pick (ℕ_discrete x (k - 1))
  where
    pick : Dec (x ≡ k - 1) → at l (x + i * w) ≡ pos 0
    pick (yes e) = ap (λ (x : ℕ). at l (x + i * w)) e ∙ z i q
    pick (no d) = f x i (omega arith) g q

pub loop-x-init : goal.loop-x-init
loop-x-init c x i h g = absurd (omega arith)

pub overflow_add-result : goal.overflow_add-result
overflow_add-result c = omega (arith, size_in c.args.w c.requires.0)

pub returns-then-any : goal.returns-then-any
returns-then-any c = (omega (arith, size-even c.args.w c.requires.0), λ x i h. c.loop-x.invariant x i (omega arith))

pub loop-x-preserved : goal.loop-x-preserved
loop-x-preserved c = none_before c.args.c.now c.args.w c.args.rows c.loop-x.x c.loop-x-test.true (c.any.ensures c.if-any.false) c.loop-x.invariant

pub returns : goal.returns
returns c = (omega arith, λ x i h. c.loop-x.invariant x i (omega arith))
