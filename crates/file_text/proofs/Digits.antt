-- The decimal text of a number, a digit at a time. Assumes nothing.
use mathlib.Core.Path.{◌≡◌, refl, sym, ap}
use mathlib.Core.Bool.{cond}
use mathlib.Core.List.{List, [], ◌∷◌, ◌++◌}
use Prim.Native.Nat.{ℕ, zero, suc, ◌+◌, ◌-◌, ◌*◌, ◌/◌, ◌%◌, ◌^◌, ◌≤◌, ◌<◌}
use native.Mathlib.Nat.{pow-suc}
use native.Mathlib.Numerals.{sub-one}
use native.Mathlib.Omega.{arith}
use borrow.Author.Tests.{lt-ltb, le-ltb}
use lib.Dec.{ltb}
use Rattle.file_text.specs.Text.{digits, decimal}

pub digits-small : (k n : ℕ) → n < 10 → digits k n ≡ (48 + n) ∷ []
unfolding digits
digits-small zero n h = refl
digits-small (suc k) n h = simp (lt-ltb _ _ h)

pub digits_more : (k n : ℕ) → 10 ≤ n → 0 < k → digits k n ≡ digits (k - 1) (n / 10) ++ ((48 + n % 10) ∷ [])
unfolding digits
digits_more zero n h p = absurd (omega arith)
digits_more (suc k) n h p = simp (le-ltb _ _ h, sub-one)

-- a number has one digit less without its last
shorter : (k n : ℕ) → n < 10 ^ suc (suc k) → n / 10 < 10 ^ suc k
shorter k n h =
    let g : n < 10 ^ suc k * 10 = rw (← pow-suc 10 (suc k)) h in
    omega arith

pub down : (k n : ℕ) → n < 10 ^ (k + 1) → 10 ≤ n → (0 < k) × (n / 10 < 10 ^ (k - 1 + 1))
down zero n h p = absurd (omega arith)
down (suc k) n h p =
    let e : suc k + 1 ≡ suc (suc k) = omega arith in
    let f : suc k - 1 + 1 ≡ suc k = omega arith in
    (omega arith, rw f (shorter k n (rw (← e) h)))

-- any number of digits that is enough gives the same text
enough : (k j n : ℕ) → n < 10 ^ suc k → n < 10 ^ suc j → digits k n ≡ digits j n
unfolding digits
enough zero j n h g = sym (digits-small j n (omega arith))
enough (suc k) zero n h g = digits-small (suc k) n (omega arith)
enough (suc k) (suc j) n h g =
    ap (λ (t : List ℕ). cond (ltb n 10) ((48 + n) ∷ []) (t ++ ((48 + n % 10) ∷ []))) (enough k j (n / 10) (shorter k n h) (shorter j n g))

below : (n : ℕ) → n < 10 ^ suc n
below zero = omega arith
below (suc n) = rw (pow-suc 10 (suc n)) (omega (arith, below n))

pub ten-digits : (n : ℕ) → n < 10 ^ 10 → digits 9 n ≡ decimal n
unfolding decimal
ten-digits n h = enough 9 n n h (below n)
