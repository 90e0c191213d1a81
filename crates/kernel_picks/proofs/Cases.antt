-- Which kernels there are, one by one. Assumes nothing.
use mathlib.Core.Path.{◌≡◌}
use mathlib.Core.Bool.{true, ◌&&◌, false≢true}
use Prim.Native.Nat.{ℕ, ◌≤◌, ◌<◌}
use native.Mathlib.Omega.{arith}
use lib.Dec.{eqb}
use Rattle.meaning.proofs.Cases.{or_cases, and_cases, at-number}
use Rattle.kernel_picks.specs.Picks.{is_kernel}

one : (P : ℕ → ℕ → Type 0) (n live N L : ℕ) → P N L → eqb n N && eqb live L ≡ true → P n live
one P n live N L p h = let b = and_cases (eqb n N) (eqb live L) h in at-number (λ n. P n live) n N (at-number (P N) live L p b.1) b.0

pub kernel-cases : (P : ℕ → ℕ → Type 0) → P 4 4 → P 8 4 → P 8 8 → P 16 4 → P 16 16 → P 32 8 → P 32 32 → (count n live : ℕ) → is_kernel count n live ≡ true → P n live
unfolding is_kernel
kernel-cases P p4-4 p8-4 p8-8 p16-4 p16-16 p32-8 p32-32 count n live h =
    or_cases (eqb n 8 && eqb live 8) _ h (one P n live 8 8 p8-8)
    (λ h. or_cases (eqb n 16 && eqb live 16) _ h (one P n live 16 16 p16-16)
    (λ h. or_cases (eqb n 4 && eqb live 4) _ (and_cases (eqb count 8) _ h).1 (one P n live 4 4 p4-4)
    (λ h. or_cases (eqb n 8 && eqb live 4) _ h (one P n live 8 4 p8-4)
    (λ h. or_cases (eqb n 16 && eqb live 4) _ h (one P n live 16 4 p16-4)
    (λ h. or_cases (eqb n 32 && eqb live 8) (eqb n 32 && eqb live 32) h (one P n live 32 8 p32-8) (one P n live 32 32 p32-32))))))

-- of 4 columns or rows
pub four-cases : (P : ℕ → ℕ → Type 0) → P 8 8 → P 16 16 → (n live : ℕ) → is_kernel 4 n live ≡ true → P n live
unfolding is_kernel
four-cases P p8-8 p16-16 n live h =
    or_cases (eqb n 8 && eqb live 8) _ h (one P n live 8 8 p8-8)
    (λ h. or_cases (eqb n 16 && eqb live 16) _ h (one P n live 16 16 p16-16)
    (λ h. absurd (false≢true h)))

pub few-points : (count n live : ℕ) → is_kernel count n live ≡ true → n ≤ 32
few-points = kernel-cases (λ n _. n ≤ 32) (omega arith) (omega arith) (omega arith) (omega arith) (omega arith) (omega arith) (omega arith)

pub some-live : (count n live : ℕ) → is_kernel count n live ≡ true → 0 < live
some-live = kernel-cases (λ _ live. 0 < live) (omega arith) (omega arith) (omega arith) (omega arith) (omega arith) (omega arith) (omega arith)

pub few-live : (count n live : ℕ) → is_kernel count n live ≡ true → live ≤ n
few-live = kernel-cases (λ n live. live ≤ n) (omega arith) (omega arith) (omega arith) (omega arith) (omega arith) (omega arith) (omega arith)
