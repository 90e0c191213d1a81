-- Whole numbers modulo 2^32: a sum that wraps on the way ends on the sum. Assumes nothing.
use Rattle.std.proofs.Common.{◌≡◌, ℕ, zero, suc, ◌+◌, ◌-◌, ◌%◌, ◌^◌, ◌<◌, true, false, ℤ, pos, negsuc, ◌+ℤ◌, nat_abs, refl, true≢false, mod-eq_of_lt, arith, w32, SFits, to_z, of_z, ltb-true, le-ltb, lt-ltb}
use lib.Signed.{lt_z}
use mir.ValLaws.{to_z-of_z}
use Rattle.algebra.specs.Sum.{sum, sumℕ}
use Rattle.algebra.proofs.Order.{subℕ-cases}
use Rattle.wrapping.specs.Wrapped.{wrap, signed_of}

pub wrap-lt : (z : ℤ) → wrap z < 2 ^ 32
wrap-lt (pos n) = omega arith
wrap-lt (negsuc n) = omega arith

-- one number more
pub wrap-add : (a b : ℤ) → (wrap a + wrap b) % 2 ^ 32 ≡ wrap (a +ℤ b)
wrap-add (pos a) (pos b) = omega arith
wrap-add (pos a) (negsuc b) = subℕ-cases a (suc b) (λ (z : ℤ). (wrap (pos a) + wrap (negsuc b)) % 2 ^ 32 ≡ wrap z) (λ h. omega arith) (λ h. omega arith)
wrap-add (negsuc a) (pos b) = subℕ-cases b (suc a) (λ (z : ℤ). (wrap (negsuc a) + wrap (pos b)) % 2 ^ 32 ≡ wrap z) (λ h. omega arith) (λ h. omega arith)
wrap-add (negsuc a) (negsuc b) = omega arith

-- any number of them
pub wrap-sum : (n : ℕ) (f : ℕ → ℤ) → sumℕ n (λ i. wrap (f i)) % 2 ^ 32 ≡ wrap (sum n f)
unfolding sum sumℕ
wrap-sum zero f = refl
wrap-sum (suc n) f =
    let h : sumℕ n (λ i. wrap (f i)) % 2 ^ 32 ≡ wrap (sum n f) = wrap-sum n f in
    omega (arith, wrap-add (sum n f) (f n))

-- a number of 32 bits is read again
pub read_back : (z : ℤ) → nat_abs z < 2 ^ 31 → signed_of (wrap z) ≡ z
read_back (pos n) h =
    let m : n % 2 ^ 32 ≡ n = mod-eq_of_lt (omega arith) in
    rw (m, lt-ltb n (2 ^ 31) h)
read_back (negsuc n) h =
    let m : 2 ^ 32 - suc (n % 2 ^ 32) ≡ 2 ^ 32 - suc n = omega arith in
    let q : 2 ^ 32 - suc (2 ^ 32 - suc n) ≡ n = omega arith in
    rw (m, le-ltb (2 ^ 32 - suc n) (2 ^ 31) (omega arith), q)

-- ---- the bits of a signed number of 32 bits, as the code finds them
pub of_negative : (p : ℤ) → SFits w32 p → lt_z p (pos 0) ≡ true → to_z w32 (4294967295 - of_z w32 p) ≡ pos (4294967295 - wrap p)
of_negative (pos n) f e = absurd (omega (arith, ltb-true n 0 e))
of_negative (negsuc n) f e =
    let h : n < 2 ^ 31 = f.sfits in
    let m : 2 ^ 32 - suc (n % 2 ^ 32) ≡ 2 ^ 32 - suc n = omega arith in
    let q : 4294967295 - (2 ^ 32 - suc n) ≡ n = omega arith in
    rw (m, q) (to_z-of_z w32 (pos n) (record { sfits = h }))

pub of_other : (p : ℤ) → SFits w32 p → lt_z p (pos 0) ≡ false → p ≡ pos (wrap p)
of_other (pos n) f e =
    let m : n % 2 ^ 32 ≡ n = mod-eq_of_lt (omega (arith, f.sfits)) in
    rw m
of_other (negsuc n) f e = absurd (true≢false e)
