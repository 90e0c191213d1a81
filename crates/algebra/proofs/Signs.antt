-- What the test `z < 0` tells of a signed number, for its sign and its size; a number of 16 bits in 32. Assumes nothing.
use mathlib.Core.Path.{◌≡◌, refl, sym, ap, ◌∙◌}
use mathlib.Core.Bool.{true, false, true≢false}
use Prim.Native.Nat.{suc, ◌-◌, ◌^◌, ◌≤◌, ◌<◌}
use native.Mathlib.Omega.{arith}
use borrow.Author.Tests.{ltb-true}
use lib.Dec.{T}
use lib.IntN.{ℤ, pos, negsuc, nat_abs, ◌-ℤ◌}
use lib.Signed.{lt_z, non_neg, mag}
use mir.Syntax.{w16, w32}
use mir.Val.{SFits, to_z, of_z}
use mir.ValLaws.{to_z-of_z, to_z_pos}

-- ---- of 32 bits
-- z is negative: `!z` is one less than its size
pub record Negative (z : ℤ) : Type 0 where
  pub shape : z ≡ negsuc (nat_abs z - 1)
  pub flipped : to_z w32 (4294967295 - of_z w32 z) ≡ pos (nat_abs z - 1)
  pub low : 0 < nat_abs z
  pub high : nat_abs z ≤ 2 ^ 31

pub negative : (z : ℤ) → SFits w32 z → lt_z (to_z w32 (of_z w32 z)) (to_z w32 0) ≡ true → Negative z
negative (pos n) f e = absurd (let e' : lt_z (pos n) (pos 0) ≡ true = rw (to_z-of_z w32 (pos n) f) at e in omega (arith, ltb-true n 0 e'))
negative (negsuc k) f e =
    let h : k < 2 ^ 31 = f.sfits in
    let p : 4294967295 - (4294967296 - suc k) ≡ k = omega arith in
    let q : suc k - 1 ≡ k = omega arith in
    record { shape = ap negsuc (sym q); flipped = rw (p, q) (to_z_pos w32 k h); low = omega arith; high = omega arith }

pub record Plain (z : ℤ) : Type 0 where
  pub shape : z ≡ pos (nat_abs z)
  pub is : to_z w32 (of_z w32 z) ≡ pos (nat_abs z)
  pub high : nat_abs z < 2 ^ 31

pub plain : (z : ℤ) → SFits w32 z → lt_z (to_z w32 (of_z w32 z)) (to_z w32 0) ≡ false → Plain z
plain (pos n) f e = record { shape = refl; is = to_z-of_z w32 (pos n) f; high = f.sfits }
plain (negsuc k) f e =
    absurd (let e' : lt_z (negsuc k) (pos 0) ≡ false = rw (to_z-of_z w32 (negsuc k) f) at e in true≢false e')

-- ---- the same of any number
-- below 0, its negative is not, and has its size
pub below-turned : (z : ℤ) → lt_z z (pos 0) ≡ true → T (non_neg (pos 0 -ℤ z)) × (nat_abs (pos 0 -ℤ z) ≡ nat_abs z)
below-turned (pos n) e = absurd (omega (arith, ltb-true n 0 e))
below-turned (negsuc n) e = (tt, omega arith)

pub not-below : (z : ℤ) → lt_z z (pos 0) ≡ false → T (non_neg z)
not-below (pos n) e = tt
not-below (negsuc n) e = absurd (true≢false e)

-- ---- a number of 16 bits in 32
pub wider : {z : ℤ} → SFits w16 z → SFits w32 z
wider {z} f = let h : mag z < 2 ^ 15 = f.sfits in record { sfits = omega arith }

pub widened : (z : ℤ) → SFits w16 z → to_z w32 (of_z w32 (to_z w16 (of_z w16 z))) ≡ z
widened z f = ap (λ (v : ℤ). to_z w32 (of_z w32 v)) (to_z-of_z w16 z f) ∙ to_z-of_z w32 z (wider f)
