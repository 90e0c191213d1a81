-- At widths of at most 16, for all kinds and however many columns are kept, A is at most 940. Assumes nothing.
use mathlib.Core.Path.{◌≡◌}
use mathlib.Core.Bool.{true}
use Prim.Native.Nat.{ℕ, ◌≤◌, ◌<◌}
use native.Mathlib.Nat.{le_trans}
use native.Mathlib.Omega.{arith}
use lib.Dec.{T, leb, leb→le}
use Rattle.meaning.specs.Shape.{has_line}
use Rattle.meaning.specs.Plan.{Plan}
use Rattle.meaning.specs.Taken.{Sized}
use Rattle.meaning.specs.Exact.{weight_sizes}
use Rattle.meaning.proofs.Cases.{has-cases}
use Rattle.meaning.proofs.Sizes.{largest_column, column_largest_kept}

narrow-largest : (kind w : ℕ) → has_line kind w ≡ true → w ≤ 16 → largest_column kind w ≤ 940
narrow-largest kind w l h = leb→le (largest_column kind w) 940 (tested h)
  where
    tested : w ≤ 16 → T (leb (largest_column kind w) 940)
    tested =
        has-cases (λ (kind w : ℕ). w ≤ 16 → T (leb (largest_column kind w) 940))
        (λ _. tt) (λ _. tt) (λ _. tt) (λ h. absurd (omega arith))
        (λ _. tt) (λ _. tt) (λ _. tt) (λ h. absurd (omega arith))
        (λ _. tt) (λ _. tt) (λ _. tt) (λ _. tt) (λ h. absurd (omega arith)) (λ h. absurd (omega arith)) kind w l

-- .. of which no more is kept than there is
pub narrow-sizes : (p : Plan) (x : ℕ) → Sized p → p.width ≤ 16 → x < p.width → weight_sizes p x ≤ 940
unfolding weight_sizes
narrow-sizes p x s narrow hx =
    le_trans (column_largest_kept p.horizontal p.width s.along p.columns x s.columns hx)
    (narrow-largest p.horizontal p.width s.along narrow)
