-- Size and order of integers, and their linear arithmetic handed to omega. Assumes nothing.
use mathlib.Core.Path.{◌≡◌, refl, ap}
use mathlib.Core.List.{List}
use mathlib.Core.Bool.{Bool, true, false, not, cond}
use Prim.Native.Nat.{ℕ, zero, suc, ◌+◌, ◌-◌, ◌*◌, ◌^◌, ◌≤◌, ◌<◌, min}
use native.Mathlib.Omega.{arith}
use native.Mathlib.Nat.{mul-zero, zero-mul, lt_of_le_of_lt}
use lib.Dec.{T, ltb, ltb→lt, nltb→le, leb→le, le→leb}
use lib.IntN.{ℤ, pos, negsuc, neg_ℤ, nat_abs, sub_ℕ, ◌+ℤ◌, ◌*ℤ◌}
use lib.Signed.{mag, ◌≤ℤ◌, ◌<ℤ◌, le_z_yes}
use mir.Syntax.{Width}
use mir.Val.{SFits, hbits}
use Rattle.algebra.proofs.Normal.{Expr, ν, κ, ◌⊕◌, ◌⊖◌, ◌⊗◌, ⊝, nth, eval}

-- a − b, by cases
pub subℕ-cases : (a b : ℕ) (P : ℤ → Type 0) → (a < b → P (negsuc (b - suc a))) → (b ≤ a → P (pos (a - b))) → P (sub_ℕ a b)
subℕ-cases a b P f g = go (ltb a b) (λ t. f (ltb→lt a b t)) (λ t. g (nltb→le a b t))
  where
    go : (c : Bool) → (T c → P (negsuc (b - suc a))) → (T (not c) → P (pos (a - b))) → P (cond c (negsuc (b - suc a)) (pos (a - b)))
    go true f g = f tt
    go false f g = g tt

-- ---- the two parts of an integer: z = up z - dn z, one of them 0
abbrev pub up : ℤ → ℕ
up (pos n) = n
up (negsuc n) = 0

abbrev pub dn : ℤ → ℕ
dn (pos n) = 0
dn (negsuc n) = suc n

-- for omega, which reads min
pub parts-zero : (z : ℤ) → min (up z) (dn z) ≡ 0
parts-zero (pos n) = omega arith
parts-zero (negsuc n) = omega arith

pub up_neg : (z : ℤ) → up (neg_ℤ z) ≡ dn z
up_neg (pos zero) = refl
up_neg (pos (suc n)) = refl
up_neg (negsuc n) = refl

pub dn-neg : (z : ℤ) → dn (neg_ℤ z) ≡ up z
dn-neg (pos zero) = refl
dn-neg (pos (suc n)) = refl
dn-neg (negsuc n) = refl

pub parts_add : (a b : ℤ) → up (a +ℤ b) + (dn a + dn b) ≡ up a + up b + dn (a +ℤ b)
parts_add (pos a) (pos b) = omega arith
parts_add (pos a) (negsuc b) = subℕ-cases a (suc b) (λ (z : ℤ). up z + (0 + suc b) ≡ a + 0 + dn z) (λ h. omega arith) (λ h. omega arith)
parts_add (negsuc a) (pos b) = subℕ-cases b (suc a) (λ (z : ℤ). up z + (suc a + 0) ≡ 0 + b + dn z) (λ h. omega arith) (λ h. omega arith)
parts_add (negsuc a) (negsuc b) = omega arith

pub parts-mul : (a b : ℤ) → up (a *ℤ b) + (up a * dn b + dn a * up b) ≡ up a * up b + dn a * dn b + dn (a *ℤ b)
parts-mul (pos a) (pos b) = omega (arith, mul-zero a, zero-mul b)
parts-mul (pos a) (negsuc b) = omega (arith, up_neg (pos (a * suc b)), dn-neg (pos (a * suc b)), mul-zero a, zero-mul (suc b))
parts-mul (negsuc a) (pos b) = omega (arith, up_neg (pos (suc a * b)), dn-neg (pos (suc a * b)), mul-zero (suc a), zero-mul b)
parts-mul (negsuc a) (negsuc b) = omega (arith, mul-zero (suc a), zero-mul (suc b))

-- ---- the parts of an expression, as ℕ terms over the parts of its variables
abbrev mutual
  pub up_e : List ℤ → Expr → ℕ
  up_e ρ (ν i) = up (nth ρ i)
  up_e ρ (κ z) = up z
  up_e ρ (a ⊕ b) = up_e ρ a + up_e ρ b
  up_e ρ (a ⊖ b) = up_e ρ a + dn_e ρ b
  up_e ρ (a ⊗ b) = up_e ρ a * up_e ρ b + dn_e ρ a * dn_e ρ b
  up_e ρ (⊝ a) = dn_e ρ a

  pub dn_e : List ℤ → Expr → ℕ
  dn_e ρ (ν i) = dn (nth ρ i)
  dn_e ρ (κ z) = dn z
  dn_e ρ (a ⊕ b) = dn_e ρ a + dn_e ρ b
  dn_e ρ (a ⊖ b) = dn_e ρ a + up_e ρ b
  dn_e ρ (a ⊗ b) = up_e ρ a * dn_e ρ b + dn_e ρ a * up_e ρ b
  dn_e ρ (⊝ a) = up_e ρ a

-- if p - n = a and q - m = b then (p q + n m) - (p m + n q) = a b
mul-parts : (a b : ℤ) (p n q m : ℕ) → up a + n ≡ p + dn a → up b + m ≡ q + dn b → up (a *ℤ b) + (p * m + n * q) ≡ p * q + n * m + dn (a *ℤ b)
mul-parts a b p n q m h g =
    omega (arith, parts-mul a b, ap (λ (x : ℕ). x * q) h, ap (λ (x : ℕ). x * m) h, ap (λ (x : ℕ). x * up a) g, ap (λ (x : ℕ). x * dn a) g)

pub parts : (ρ : List ℤ) (e : Expr) → up (eval ρ e) + dn_e ρ e ≡ up_e ρ e + dn (eval ρ e)
parts ρ (ν i) = refl
parts ρ (κ z) = refl
parts ρ (a ⊕ b) = omega (arith, parts ρ a, parts ρ b, parts_add (eval ρ a) (eval ρ b))
parts ρ (a ⊖ b) = omega (arith, parts ρ a, parts ρ b, parts_add (eval ρ a) (neg_ℤ (eval ρ b)), up_neg (eval ρ b), dn-neg (eval ρ b))
parts ρ (a ⊗ b) = mul-parts (eval ρ a) (eval ρ b) (up_e ρ a) (dn_e ρ a) (up_e ρ b) (dn_e ρ b) (parts ρ a) (parts ρ b)
parts ρ (⊝ a) = omega (arith, parts ρ a, up_neg (eval ρ a), dn-neg (eval ρ a))

-- ---- order
pub le_parts : {a b : ℤ} → a ≤ℤ b → up a + dn b ≤ up b + dn a
le_parts {a = pos a} {b = pos b} h = omega (arith, leb→le a b h.le)
le_parts {a = pos a} {b = negsuc b} h = absurd h.le
le_parts {a = negsuc a} {b = pos b} h = omega arith
le_parts {a = negsuc a} {b = negsuc b} h = omega (arith, leb→le b a h.le)

pub parts-le : (a b : ℤ) → up a + dn b ≤ up b + dn a → a ≤ℤ b
parts-le (pos a) (pos b) h = le_z_yes (le→leb a b (omega arith))
parts-le (pos a) (negsuc b) h = absurd (omega arith)
parts-le (negsuc a) (pos b) h = le_z_yes tt
parts-le (negsuc a) (negsuc b) h = le_z_yes (le→leb b a (omega arith))

pub lt-parts : {a b : ℤ} → a <ℤ b → up a + dn b < up b + dn a
lt-parts {a = pos a} {b = pos b} h = omega (arith, ltb→lt a b h.lt)
lt-parts {a = pos a} {b = negsuc b} h = absurd h.lt
lt-parts {a = negsuc a} {b = pos b} h = omega arith
lt-parts {a = negsuc a} {b = negsuc b} h = omega (arith, ltb→lt b a h.lt)

pub eq-parts : {a b : ℤ} → a ≡ b → up a + dn b ≡ up b + dn a
eq-parts {a} {b} h = rw h

pub parts-eq : (a b : ℤ) → up a + dn b ≡ up b + dn a → a ≡ b
parts-eq (pos a) (pos b) h = ap pos (omega arith)
parts-eq (pos a) (negsuc b) h = absurd (omega arith)
parts-eq (negsuc a) (pos b) h = absurd (omega arith)
parts-eq (negsuc a) (negsuc b) h = ap negsuc (omega arith)

-- ---- size
pub abs-parts : (z : ℤ) → nat_abs z ≡ up z + dn z
abs-parts (pos n) = omega arith
abs-parts (negsuc n) = omega arith

pub parts-abs : (z : ℤ) (B : ℕ) → up z ≤ dn z + B → dn z ≤ up z + B → nat_abs z ≤ B
parts-abs (pos n) B h g = omega arith
parts-abs (negsuc n) B h g = omega arith

pub abs-zero : (z : ℤ) → nat_abs z ≡ 0 → z ≡ pos 0
abs-zero (pos n) e = ap pos e
abs-zero (negsuc n) e = absurd (omega arith)

pub parts-fit : (w : Width) (z : ℤ) → up z < dn z + 2 ^ hbits w → dn z ≤ up z + 2 ^ hbits w → SFits w z
parts-fit w (pos n) h g = record { sfits = omega arith }
parts-fit w (negsuc n) h g = record { sfits = omega arith }

-- ---- the same at expressions: what omega proves, and what it is handed
module _ (ρ : List ℤ) where
  pub lin_abs : (e : Expr) (B : ℕ) → up_e ρ e ≤ dn_e ρ e + B → dn_e ρ e ≤ up_e ρ e + B → nat_abs (eval ρ e) ≤ B
  lin_abs e B h g = parts-abs (eval ρ e) B (omega (arith, parts ρ e)) (omega (arith, parts ρ e))

  pub fact≡ : (e f : Expr) → eval ρ e ≡ eval ρ f → up_e ρ e + dn_e ρ f ≡ up_e ρ f + dn_e ρ e
  fact≡ e f h = omega (arith, parts ρ e, parts ρ f, eq-parts h)

  pub fact_abs : (e : Expr) {B : ℕ} → nat_abs (eval ρ e) ≤ B → (up_e ρ e ≤ dn_e ρ e + B) × (dn_e ρ e ≤ up_e ρ e + B)
  fact_abs e h = (omega (arith, parts ρ e, abs-parts (eval ρ e)), omega (arith, parts ρ e, abs-parts (eval ρ e)))

-- ---- the size of a sum, a product, ..
pub abs_neg : (a : ℤ) → nat_abs (neg_ℤ a) ≡ nat_abs a
abs_neg a = omega (arith, abs-parts a, abs-parts (neg_ℤ a), up_neg a, dn-neg a)

pub abs-add : (a b : ℤ) → nat_abs (a +ℤ b) ≤ nat_abs a + nat_abs b
abs-add a b = parts-abs (a +ℤ b) (nat_abs a + nat_abs b) (omega (arith, abs-parts a, abs-parts b, parts_add a b)) (omega (arith, abs-parts a, abs-parts b, parts_add a b))

pub abs-mul : (a b : ℤ) → nat_abs (a *ℤ b) ≡ nat_abs a * nat_abs b
abs-mul (pos a) (pos b) = refl
abs-mul (pos a) (negsuc b) = abs_neg (pos (a * suc b))
abs-mul (negsuc a) (pos b) = abs_neg (pos (suc a * b))
abs-mul (negsuc a) (negsuc b) = refl

-- z is at most B in size. A record, so that z and B are inferred
pub record Within (B : ℕ) (z : ℤ) : Type 0 where
  pub within : nat_abs z ≤ B

pub within : {B : ℕ} (z : ℤ) → nat_abs z ≤ B → Within B z
within z h = record { within = h }

pub mag-abs : (z : ℤ) → mag z ≤ nat_abs z
mag-abs (pos n) = omega arith
mag-abs (negsuc n) = omega arith

-- with a numeral for a bound: `fits_in tt p`
pub fits_in : {w : Width} {B : ℕ} {z : ℤ} → T (ltb B (2 ^ hbits w)) → Within B z → SFits w z
fits_in {w} {B} {z} t p = record { sfits = lt_of_le_of_lt (mag-abs z) (lt_of_le_of_lt p.within (ltb→lt B (2 ^ hbits w) t)) }

pub in-fits : {w : Width} {z : ℤ} → SFits w z → Within (2 ^ hbits w) z
in-fits {w} {z = pos n} f = record { within = omega (arith, f.sfits) }
in-fits {w} {z = negsuc n} f = record { within = f.sfits }
