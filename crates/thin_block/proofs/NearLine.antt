-- Wish 7: "Demand 3 gets a one-stage form: the last rounding alone, at most half a level". Assumes nothing.
--   thin-near:    |2^s · residual − exact sum| ≤ 2^(s-1), s being the last shift, at every depth that is taken
--   thin-demand3: the same of every number that an accepted call of one stage leaves at the start of the first area
use mathlib.Core.Path.{◌≡◌, sym, subst}
use mathlib.Core.Bool.{true}
use mathlib.Core.List.{List}
use Prim.Native.Nat.{ℕ, suc, ◌*◌, ◌-◌, ◌^◌, ◌≤◌, ◌<◌}
use native.Mathlib.Omega.{arith}
use lib.IntN.{ℤ, pos, nat_abs, ◌-ℤ◌, ◌*ℤ◌}
use Rattle.algebra.specs.Shift.{nearest}
use Rattle.algebra.specs.Lists.{at}
use Rattle.algebra.proofs.Shift.{shift-near}
use Rattle.meaning.specs.declared.Shape.{Shape}
use Rattle.meaning.specs.Shape.{is_depth}
use Rattle.meaning.proofs.Cases.{depth-cases}
use Rattle.thin_block.specs.Thin.{one_stage, thin_shift, thin_sum, thin_residual, thin_outcome}
use Rattle.thin_block.proofs.Areas.{taken, residuals-stand}

-- of any number and any shift
near : (s k : ℕ) (z : ℤ) → s ≡ suc k → nat_abs (pos (2 ^ s) *ℤ nearest s z -ℤ z) ≤ 2 ^ k
near s k z e = subst (λ (s : ℕ). nat_abs (pos (2 ^ s) *ℤ nearest s z -ℤ z) ≤ 2 ^ k) (sym e) (rounding k z)
  where
    rounding : (k : ℕ) (z : ℤ) → nat_abs (pos (2 ^ suc k) *ℤ nearest (suc k) z -ℤ z) ≤ 2 ^ k
    rounding k z =
        let e : suc k - 1 ≡ k = omega arith in
        rw e (shift-near z k)

pub thin-near : (sh : Shape) (c : List ℤ) → is_depth sh.depth ≡ true → (k : ℕ)
    → nat_abs (pos (2 ^ thin_shift sh.depth) *ℤ thin_residual sh c k -ℤ thin_sum sh c k) ≤ 2 ^ (thin_shift sh.depth - 1)
unfolding thin_residual
thin-near sh c d k = near (thin_shift sh.depth) (thin_shift sh.depth - 1) (thin_sum sh c k) (omega (arith, depth-cases sh.depth d))

pub thin-demand3 : (sh : Shape) (c a b : List ℤ) → (thin_outcome sh c a b).answer.number ≡ 0 → one_stage sh ≡ true → (k : ℕ) → k < sh.width * sh.height
    → nat_abs (pos (2 ^ thin_shift sh.depth) *ℤ at (thin_outcome sh c a b).first k -ℤ thin_sum sh c k) ≤ 2 ^ (thin_shift sh.depth - 1)
thin-demand3 sh c a b number one k h =
    subst (λ (z : ℤ). nat_abs (pos (2 ^ thin_shift sh.depth) *ℤ z -ℤ thin_sum sh c k) ≤ 2 ^ (thin_shift sh.depth - 1)) (sym ((residuals-stand sh c a b number one).1 k h))
    (thin-near sh c (taken sh c a b number).past.sides.depth k)
