-- Laws of clipping, over any range of ends. Assumes nothing.
use mathlib.Core.Path.{◌≡◌, refl}
use mathlib.Core.Bool.{Bool, true, false, not, cond}
use native.Mathlib.Omega.{arith}
use lib.Dec.{T}
use lib.IntN.{ℤ}
use lib.Signed.{lt_z, ◌≤ℤ◌, ◌<ℤ◌, lt_z_yes, lt_z_no}
use Rattle.algebra.specs.Clip.{Range, clip}
use Rattle.algebra.proofs.Order.{le_parts, parts-le, lt-parts}

-- a test of order, by what it says
pub order-cases : (a b : ℤ) (P : Bool → Type 0) → (a <ℤ b → P true) → (b ≤ℤ a → P false) → P (lt_z a b)
order-cases a b P below above = go (lt_z a b) (λ t. below (lt_z_yes t)) (λ t. above (lt_z_no t))
  where
    go : (c : Bool) → (T c → P true) → (T (not c) → P false) → P c
    go true f g = f tt
    go false f g = g tt

-- by cases: below the range, above it, in it
pub clip-cases : (r : Range) (z : ℤ) (P : ℤ → Type 0) → (z <ℤ r.low → P r.low) → (r.high <ℤ z → P r.high) → (r.low ≤ℤ z → z ≤ℤ r.high → P z) → P (clip r z)
clip-cases r z P low high inside =
    order-cases z r.low (λ (b : Bool). P (cond b r.low (cond (lt_z r.high z) r.high z))) low
    (λ l. order-cases r.high z (λ (b : Bool). P (cond b r.high z)) high (λ h. inside l h))

module _ (r : Range) (z : ℤ) where
  -- unchanged inside
  pub clip-same : r.low ≤ℤ z → z ≤ℤ r.high → clip r z ≡ z
  clip-same l h =
      clip-cases r z (λ (x : ℤ). x ≡ z)
      (λ p. absurd (omega (arith, le_parts l, lt-parts p)))
      (λ p. absurd (omega (arith, le_parts h, lt-parts p)))
      (λ _ _. refl)

  -- a value that is at neither end was not changed
  pub clip-inner : (clip r z ≡ r.low → ⊥) → (clip r z ≡ r.high → ⊥) → clip r z ≡ z
  clip-inner = clip-cases r z (λ (x : ℤ). (x ≡ r.low → ⊥) → (x ≡ r.high → ⊥) → x ≡ z) (λ _ n _. absurd (n refl)) (λ _ _ n. absurd (n refl)) (λ _ _ _ _. refl)

  -- in the range, where there is one
  pub clip-low : r.low ≤ℤ r.high → r.low ≤ℤ clip r z
  clip-low e =
      clip-cases r z (λ (x : ℤ). r.low ≤ℤ x) (λ _. parts-le r.low r.low (omega arith)) (λ _. e) (λ l _. l)

  pub clip-high : r.low ≤ℤ r.high → clip r z ≤ℤ r.high
  clip-high e =
      clip-cases r z (λ (x : ℤ). x ≤ℤ r.high) (λ _. e) (λ _. parts-le r.high r.high (omega arith)) (λ _ h. h)
