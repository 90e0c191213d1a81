-- Rooms that are long enough: of 128 weights for sizes up to 8, of 1024 for all. Assumes nothing.
use mathlib.Core.Path.{◌≡◌}
use mathlib.Core.Bool.{true}
use mathlib.Core.List.{List}
use Prim.Native.Nat.{ℕ, ◌*◌, ◌/◌, ◌≤◌}
use native.Mathlib.Nat.{mul-le-mul, le_trans}
use native.Mathlib.Omega.{arith}
use lib.ListN.{length}
use lib.IntN.{ℤ}
use Rattle.meaning.specs.declared.Shape.{Shape}
use Rattle.meaning.specs.Shape.{is_size}
use Rattle.meaning.specs.Taken.{Taken}
use Rattle.meaning.proofs.Cases.{size-cases, size_in}
use Rattle.meaning.proofs.KeptPart.{columns-kept}
use Rattle.stage_weights.specs.Stage.{Weights}
use Rattle.forward_block.specs.Stage.{Outputs, Rooms}

-- how much room the weights of all inputs in n outputs take
fits : (n : ℕ) → is_size n ≡ true → (2 * (n / 2) ≤ n) × ((n ≤ 8 → n / 2 * (2 * n) ≤ 128) × (n / 2 * (2 * n) ≤ 1024))
fits =
    size-cases (λ n. (2 * (n / 2) ≤ n) × ((n ≤ 8 → n / 2 * (2 * n) ≤ 128) × (n / 2 * (2 * n) ≤ 1024)))
    (omega arith, (λ h. omega arith, omega arith))
    (omega arith, (λ h. omega arith, omega arith))
    (omega arith, (λ h. absurd (omega arith), omega arith))
    (omega arith, (λ h. absurd (omega arith), omega arith))

module _ (kind : ℕ) {n : ℕ} {t : List ℤ} (s : is_size n ≡ true) where
  outputs-128 : n ≤ 8 → Weights 128 n true kind n t → Outputs kind n t
  outputs-128 l g = g (n / 2) (fits n s).0 ((fits n s).1.0 l)

  outputs-1024 : Weights 1024 n true kind n t → Outputs kind n t
  outputs-1024 g = g (n / 2) (fits n s).0 (fits n s).1.1

module _ {sh : Shape} {t u : List ℤ} (k : Taken sh) where
  pub rooms-128 : length t ≡ 128 → sh.width ≤ 8 → sh.height ≤ 8 → Weights 128 sh.width true sh.horizontal sh.width t
      → Weights 128 sh.height true sh.vertical sh.height u → Rooms sh t u (length t)
  rooms-128 e w h a d =
      record {
        along = outputs-128 sh.horizontal k.width w a;
        down = outputs-128 sh.vertical k.height h d;
        between = le_trans (mul-le-mul h (le_trans (columns-kept sh k).within w)) (omega (arith, e));
      }

  pub rooms-1024 : length t ≡ 1024 → Weights 1024 sh.width true sh.horizontal sh.width t → Weights 1024 sh.height true sh.vertical sh.height u
      → Rooms sh t u (length t)
  rooms-1024 e a d =
      record {
        along = outputs-1024 sh.horizontal k.width a;
        down = outputs-1024 sh.vertical k.height d;
        between = le_trans (mul-le-mul (size_in sh.height k.height) (le_trans (columns-kept sh k).within (size_in sh.width k.width))) (omega (arith, e));
      }
