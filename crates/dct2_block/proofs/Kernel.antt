-- Strips of a width. Assumes nothing.
use mathlib.Core.Path.{◌≡◌, refl}
use mathlib.Core.Bool.{true}
use Prim.Native.Nat.{ℕ, ◌%◌, ◌≤◌, ◌<◌, min}
use native.Mathlib.Omega.{arith}
use Rattle.meaning.specs.Shape.{is_size}
use Rattle.meaning.proofs.Cases.{size-cases}

pub narrow-is : (w columns : ℕ) → is_size w ≡ true → w < 8 → columns ≤ w → columns % min w 8 ≡ 0 → 0 < columns → (w ≡ 4) × (columns ≡ 4)
narrow-is w columns =
    size-cases (λ w. w < 8 → columns ≤ w → columns % min w 8 ≡ 0 → 0 < columns → (w ≡ 4) × (columns ≡ 4)) (λ _ h e s. (refl, omega arith)) (λ l h e s. absurd (omega arith))
    (λ l h e s. absurd (omega arith)) (λ l h e s. absurd (omega arith)) w

pub wide_is : (w : ℕ) → is_size w ≡ true → 8 ≤ w → (min w 8 ≡ 8) × (w % 8 ≡ 0)
wide_is = size-cases (λ w. 8 ≤ w → (min w 8 ≡ 8) × (w % 8 ≡ 0)) (λ l. absurd (omega arith)) (λ l. (refl, refl)) (λ l. (refl, refl)) (λ l. (refl, refl))

pub below-8 : (w : ℕ) → is_size w ≡ true → w < 8 → w ≡ 4
below-8 = size-cases (λ w. w < 8 → w ≡ 4) (λ l. refl) (λ l. absurd (omega arith)) (λ l. absurd (omega arith)) (λ l. absurd (omega arith))
