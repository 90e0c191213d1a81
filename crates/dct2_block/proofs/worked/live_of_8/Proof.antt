-- `live_of_8` meets its contract. Assumes nothing.
use native.Mathlib.Omega.{arith}
use mathlib.Core.Path.{◌≡◌, refl}
use mathlib.Core.Bool.{true}
use Prim.Native.Nat.{ℕ, ◌≤◌, ◌<◌}
use Rattle.meaning.specs.Shape.{is_size}
use Rattle.meaning.proofs.Cases.{size-cases, size_in}
use Rattle.kernel_picks.specs.Picks.{is_kernel}
use Rattle.dct2_block.proofs.worked.live_of_8.Statement.{statement}
use Rattle.dct2_block.proofs.worked.live_of_8.Tie as tie

-- which kernels there are of 32 points, and of fewer
of-32 : (n : ℕ) → is_size n ≡ true → 16 < n → (is_kernel 8 n 8 ≡ true) × (is_kernel 8 n 32 ≡ true)
unfolding is_kernel
of-32 = size-cases (λ n. 16 < n → (is_kernel 8 n 8 ≡ true) × (is_kernel 8 n 32 ≡ true)) (λ h. absurd (omega arith)) (λ h. absurd (omega arith)) (λ h. absurd (omega arith)) (λ h. (refl, refl))

of-fewer : (n : ℕ) → is_size n ≡ true → n ≤ 16 → (is_kernel 8 n 4 ≡ true) × (is_kernel 8 n n ≡ true)
unfolding is_kernel
of-fewer = size-cases (λ n. n ≤ 16 → (is_kernel 8 n 4 ≡ true) × (is_kernel 8 n n ≡ true)) (λ h. (refl, refl)) (λ h. (refl, refl)) (λ h. (refl, refl)) (λ h. absurd (omega arith))

returns : tie.Need-returns-then-k-le8
returns c = let s = c.before.before in ((of-32 s.args.n s.requires.0 c.before.if-n-gt16.true).0, c.if-k-le8.true)

returns-2 : tie.Need-returns-then-n-gt16
returns-2 c = let s = c.before.before in ((of-32 s.args.n s.requires.0 c.before.if-n-gt16.true).1, omega (arith, s.requires.1, size_in s.args.n s.requires.0))

returns-3 : tie.Need-returns-then-k-le4
returns-3 c = let s = c.before.before in ((of-fewer s.args.n s.requires.0 c.before.if-n-gt16.false).0, c.if-k-le4.true)

returns-4 : tie.Need-returns
returns-4 c = let s = c.before.before in ((of-fewer s.args.n s.requires.0 c.before.if-n-gt16.false).1, s.requires.1)

pub live_of_8_spec : {M : Type 1} → statement M
live_of_8_spec = tie.close (tie.spec returns returns-2 returns-3 returns-4)
