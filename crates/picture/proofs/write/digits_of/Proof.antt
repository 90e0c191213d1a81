-- `digits_of` meets its contract. Assumes nothing.
use mathlib.Core.Path.{◌≡◌, refl}
use mathlib.Core.Bool.{true}
use Prim.Native.Nat.{ℕ, ◌<◌, ◌≤◌}
use lib.ListN.{length}
use Rattle.meaning.specs.Shape.{is_size}
use Rattle.meaning.proofs.Cases.{size-cases}
use Rattle.file_text.specs.Text.{digits, decimal}
use native.Mathlib.Omega.{arith}
use Rattle.picture.proofs.write.digits_of.Statement.{statement}
use Rattle.picture.proofs.write.digits_of.Tie as tie

one : (n : ℕ) → is_size n ≡ true → n < 10 → 1 ≡ length (decimal n)
unfolding digits decimal
one = size-cases (λ n. n < 10 → 1 ≡ length (decimal n)) (λ h. refl) (λ h. refl) (λ h. absurd (omega arith)) (λ h. absurd (omega arith))

two : (n : ℕ) → is_size n ≡ true → 10 ≤ n → 2 ≡ length (decimal n)
unfolding digits decimal
two = size-cases (λ n. 10 ≤ n → 2 ≡ length (decimal n)) (λ h. absurd (omega arith)) (λ h. absurd (omega arith)) (λ h. refl) (λ h. refl)

returns : tie.Need-returns-then-n-lt10
returns c = (one c.before.args.n c.before.requires c.if-n-lt10.true, omega arith)

returns-2 : tie.Need-returns-else-n-lt10
returns-2 c = (two c.before.args.n c.before.requires c.if-n-lt10.false, omega arith)

pub digits_of_spec : {M : Type 1} → statement M
digits_of_spec = tie.close (tie.spec returns returns-2)
