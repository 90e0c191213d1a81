-- The shift that rounds down, rounding to nearest by it, and clipping. Assumes nothing.
use mathlib.Core.Path.{◌≡◌, sym, ap}
use mathlib.Core.List.{[], ◌∷◌}
use Prim.Native.Nat.{ℕ, zero, suc, ◌+◌, ◌-◌, ◌*◌, ◌/◌, ◌%◌, ◌^◌, ◌≤◌, ◌<◌}
use native.Mathlib.Omega.{arith}
use native.Mathlib.Nat.{div-add-mod, mod-lt, pow-succ', lt_of_mul-lt-mul_left, mul-suc}
use lib.Pow.{pow_pos}
use lib.IntN.{ℤ, pos, negsuc, nat_abs, ◌+ℤ◌, ◌-ℤ◌, ◌*ℤ◌}
use lib.Signed.{shr_z}
use Rattle.algebra.specs.Shift.{◌>>◌, nearest}
use Rattle.algebra.proofs.Normal.{ν, ◌⊕◌, ◌⊖◌}
use Rattle.algebra.proofs.Order.{up_neg, dn-neg, parts_add, parts-zero, parts-eq, abs-parts, abs-add, abs-mul, lin_abs, fact≡, fact_abs}

-- what the shift drops
abbrev pub shr_rem : ℤ → ℕ → ℕ
shr_rem (pos a) m = a % m
shr_rem (negsuc a) m = m - suc (a % m)

pub shr_rem-lt : (z : ℤ) (m : ℕ) → 0 < m → shr_rem z m < m
shr_rem-lt (pos a) m h = mod-lt a h
shr_rem-lt (negsuc a) m h = omega arith

pub shr-eq : (z : ℤ) (m : ℕ) → 0 < m → z ≡ pos m *ℤ shr_z z m +ℤ pos (shr_rem z m)
shr-eq (pos a) m h = ap pos (sym (div-add-mod a m))
shr-eq (negsuc a) m h =
    parts-eq (negsuc a) (pos m *ℤ negsuc (a / m) +ℤ pos (m - suc (a % m)))
    (omega (arith, parts_add (pos m *ℤ negsuc (a / m)) (pos (m - suc (a % m))), up_neg (pos (m * suc (a / m))), dn-neg (pos (m * suc (a / m))), div-add-mod a m, mod-lt a h))

-- |2 h ⌊(z + h) / 2 h⌋ - z| ≤ h
pub round-near : (z : ℤ) (h : ℕ) → 0 < h → nat_abs (pos (2 * h) *ℤ shr_z (z +ℤ pos h) (2 * h) -ℤ z) ≤ h
round-near z h q =
    let s = shr_z (z +ℤ pos h) (2 * h) in
    let r = shr_rem (z +ℤ pos h) (2 * h) in
    let ρ = z ∷ pos h ∷ (pos (2 * h) *ℤ s) ∷ pos r ∷ [] in
    let e = fact≡ ρ (ν 0 ⊕ ν 1) (ν 2 ⊕ ν 3) (shr-eq (z +ℤ pos h) (2 * h) (omega arith)) in
    let l = shr_rem-lt (z +ℤ pos h) (2 * h) (omega arith) in
    lin_abs ρ (ν 2 ⊖ ν 0) h (omega (arith, e, l)) (omega (arith, e, l))

pub shr-near : (z : ℤ) (k : ℕ) → nat_abs (pos (2 ^ suc k) *ℤ shr_z (z +ℤ pos (2 ^ k)) (2 ^ suc k) -ℤ z) ≤ 2 ^ k
shr-near z k = rw (pow-succ' 2 k) (round-near z (2 ^ k) (pow_pos k))

-- ---- the same for `>>`
-- 2^n (a >> n) ≤ a < 2^n (a >> n) + 2^n: it is the floor
pub shift-floor : (a : ℤ) (n : ℕ) → a ≡ pos (2 ^ n) *ℤ (a >> n) +ℤ pos (shr_rem a (2 ^ n)) × shr_rem a (2 ^ n) < 2 ^ n
shift-floor a n = (shr-eq a (2 ^ n) (pow_pos n), shr_rem-lt a (2 ^ n) (pow_pos n))

-- rounding to the nearest: |2^(k+1) ((z + 2^k) >> (k + 1)) - z| ≤ 2^k
pub shift-near : (z : ℤ) (k : ℕ) → nat_abs (pos (2 ^ suc k) *ℤ ((z +ℤ pos (2 ^ k)) >> suc k) -ℤ z) ≤ 2 ^ k
shift-near z k = shr-near z k

-- |2 h s - z| ≤ h and |z| ≤ 2 h B give |s| ≤ B
near-in : (s z : ℤ) (h B : ℕ) → 0 < h → nat_abs (pos (2 * h) *ℤ s -ℤ z) ≤ h → nat_abs z ≤ 2 * h * B → nat_abs s ≤ B
near-in s z h B q p l =
    let m = 2 * h in
    let e = fact_abs ((pos m *ℤ s) ∷ z ∷ []) (ν 0 ⊖ ν 1) p in
    lt-suc (lt_of_mul-lt-mul_left m (omega (arith, e, abs-parts z, abs-parts (pos m *ℤ s), parts-zero (pos m *ℤ s), abs-mul (pos m) s, mul-suc m B)))
  where
    lt-suc : {x y : ℕ} → x < suc y → x ≤ y
    lt-suc h = omega arith

-- rounding makes no number larger than its size over 2^(k+1), rounded up
pub shift_in : (z : ℤ) (k B : ℕ) → nat_abs z ≤ 2 ^ suc k * B → nat_abs ((z +ℤ pos (2 ^ k)) >> suc k) ≤ B
shift_in z k B h =
    let h' = rw (pow-succ' 2 k) at h in
    rw (pow-succ' 2 k) (near-in (shr_z (z +ℤ pos (2 ^ k)) (2 * 2 ^ k)) z (2 ^ k) B (pow_pos k) (round-near z (2 ^ k) (pow_pos k)) h')

-- what rounding shifts is larger than z by at most what it adds
pub rounding-in : (n : ℕ) (z : ℤ) (B : ℕ) → nat_abs z ≤ B → nat_abs (z +ℤ pos (2 ^ (n - 1))) ≤ B + 2 ^ (n - 1)
rounding-in n z B h = omega (arith, abs-add z (pos (2 ^ (n - 1))))

pub nearest_in : (n : ℕ) (z : ℤ) (B : ℕ) → 0 < n → nat_abs z ≤ 2 ^ n * B → nat_abs (nearest n z) ≤ B
nearest_in zero z B p h = absurd (omega arith)
nearest_in (suc k) z B p h =
    let e : suc k - 1 ≡ k = omega arith in
    rw e (shift_in z k B h)
