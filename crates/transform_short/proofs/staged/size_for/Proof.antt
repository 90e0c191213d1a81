-- `size_for` meets its contract: no smaller size serves. Assumes nothing.
use borrow.Author.Rules.{rules}
use native.Mathlib.Omega.{arith}
use mathlib.Core.Path.{◌≡◌, refl}
use mathlib.Core.Bool.{true}
use Prim.Native.Nat.{ℕ, ◌≤◌, ◌<◌}
use Rattle.meaning.specs.Shape.{is_size}
use Rattle.meaning.proofs.Cases.{size-cases}
use Rattle.transform_short.proofs.staged.size_for.Statement.{statement}
use Rattle.transform_short.proofs.staged.size_for.Tie as tie

-- a size that is more than one of them is at least the next
from-4 : (m : ℕ) → is_size m ≡ true → 4 ≤ m
from-4 = size-cases (λ m. 4 ≤ m) (omega arith) (omega arith) (omega arith) (omega arith)

from-8 : (m : ℕ) → is_size m ≡ true → 4 < m → 8 ≤ m
from-8 = size-cases (λ m. 4 < m → 8 ≤ m) (λ h. omega (arith, h)) (λ h. omega arith) (λ h. omega arith) (λ h. omega arith)

from-16 : (m : ℕ) → is_size m ≡ true → 8 < m → 16 ≤ m
from-16 = size-cases (λ m. 8 < m → 16 ≤ m) (λ h. omega (arith, h)) (λ h. omega (arith, h)) (λ h. omega arith) (λ h. omega arith)

from-32 : (m : ℕ) → is_size m ≡ true → 16 < m → 32 ≤ m
from-32 = size-cases (λ m. 16 < m → 32 ≤ m) (λ h. omega (arith, h)) (λ h. omega (arith, h)) (λ h. omega (arith, h)) (λ h. omega arith)

returns : tie.Need-returns-then-n-le4
unfolding is_size
returns c = (refl, (omega (arith, c.if-n-le4.true), λ m s h. from-4 m s))

returns-2 : tie.Need-returns-then-n-le8
unfolding is_size
returns-2 c = (refl, (omega (arith, c.if-n-le8.true), λ m s h. from-8 m s (omega (arith, h, c.before.if-n-le4.false))))

returns-3 : tie.Need-returns-then-n-le16
unfolding is_size
returns-3 c = (refl, (omega (arith, c.if-n-le16.true), λ m s h. from-16 m s (omega (arith, h, c.before.if-n-le8.false))))

returns-4 : tie.Need-returns
unfolding is_size
returns-4 c = (refl, (omega (arith, c.before.before.before.requires), λ m s h. from-32 m s (omega (arith, h, c.if-n-le16.false))))

pub size_for_spec : {M : Type 1} → statement M
size_for_spec = tie.close (tie.spec returns returns-2 returns-3 returns-4)
