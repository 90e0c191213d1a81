-- Rails that are counted are no more than there are numbers. Assumes nothing.
use mathlib.Core.Path.{◌≡◌, refl}
use Prim.Native.Nat.{ℕ, ◌*◌, ◌≤◌}
use Rattle.algebra.specs.Sum.{sumℕ}
use Rattle.algebra.proofs.Sum.{sumℕ-mono, sumℕ-const}

pub none_yet : (f : ℕ → ℕ) → 0 ≡ sumℕ 0 f
unfolding sumℕ
none_yet f = refl

pub sum-in : (n : ℕ) (f : ℕ → ℕ) (M : ℕ) → ((k : ℕ) → f k ≤ M) → sumℕ n f ≤ n * M
sum-in n f M h = rw (← sumℕ-const n M) (sumℕ-mono n f (λ k. M) (λ k _. h k))
