-- From machine words to integers: `Is w n z B` says that the bits n, read as signed at width w, are z, and that |z| ≤ B.
-- Each operation of the machine has a rule that makes the result's `Is` from its operands' (`add_v`), and one for what the machine asks (`add-fits`).
-- Assumes nothing.
use mathlib.Core.Path.{◌≡◌, refl, sym, ap, ◌∙◌, subst}
use mathlib.Core.Bool.{Bool, false, not}
use Prim.Native.Nat.{ℕ, ◌+◌, ◌*◌, ◌^◌, ◌≤◌, ◌<◌}
use native.Mathlib.Omega.{arith}
use native.Mathlib.Nat.{mul-le-mul, le_trans, le_refl, lt_of_le_of_lt}
use lib.Dec.{T}
use lib.IntN.{ℤ, pos, negsuc, neg_ℤ, nat_abs, ◌+ℤ◌, ◌-ℤ◌, ◌*ℤ◌}
use lib.Signed.{lt_z, shr_z, ◌≤ℤ◌, lt_z_no, mag_shr}
use mir.Syntax.{Width}
use mir.Val.{SFits, hbits, to_z, of_z}
use mir.ValLaws.{to_z-of_z}
use Rattle.algebra.proofs.Order.{abs-add, abs_neg, abs-mul, mag-abs}

pub record Is (w : Width) (n : ℕ) (z : ℤ) (B : ℕ) : Type 0 where
  pub val : to_z w n ≡ z
  pub abs : nat_abs z ≤ B

pub small : {w : Width} {z : ℤ} {B : ℕ} → B < 2 ^ hbits w → nat_abs z ≤ B → SFits w z
small {w} {z} h p = record { sfits = lt_of_le_of_lt (mag-abs z) (lt_of_le_of_lt p h) }

-- ---- parameters, literals
abs-fits : {w : Width} {z : ℤ} → SFits w z → nat_abs z ≤ 2 ^ hbits w
abs-fits {w} {z = pos n} f = omega (arith, f.sfits)
abs-fits {w} {z = negsuc n} f = f.sfits

pub arg : {w : Width} {z : ℤ} → SFits w z → Is w (of_z w z) z (2 ^ hbits w)
arg {w} {z} f = record { val = to_z-of_z w z f; abs = abs-fits f }

pub arg≤ : {w : Width} {z : ℤ} {B : ℕ} → SFits w z → nat_abs z ≤ B → Is w (of_z w z) z B
arg≤ {w} {z} f p = record { val = to_z-of_z w z f; abs = p }

pub lit : (w : Width) (n : ℕ) → Is w n (to_z w n) (nat_abs (to_z w n))
lit w n = record { val = refl; abs = le_refl (nat_abs (to_z w n)) }

-- ---- what the machine writes, where it fits
pub put : {w : Width} {y z : ℤ} {B : ℕ} → y ≡ z → SFits w z → nat_abs z ≤ B → Is w (of_z w y) z B
put {w} {y} {z} e f p = record { val = ap (λ (x : ℤ). to_z w (of_z w x)) e ∙ to_z-of_z w z f; abs = p }

module _ {w : Width} {a b : ℕ} {x y : ℤ} {A B : ℕ} (p : Is w a x A) (q : Is w b y B) where
  add-abs : nat_abs (x +ℤ y) ≤ A + B
  add-abs = omega (arith, p.abs, q.abs, abs-add x y)

  sub-abs : nat_abs (x -ℤ y) ≤ A + B
  sub-abs = omega (arith, p.abs, q.abs, abs-add x (neg_ℤ y), abs_neg y)

  mul-abs : nat_abs (x *ℤ y) ≤ A * B
  mul-abs = rw (abs-mul x y) (mul-le-mul p.abs q.abs)

  pub add-fits : A + B < 2 ^ hbits w → SFits w (to_z w a +ℤ to_z w b)
  add-fits h = subst (SFits w) (λ t. sym p.val t +ℤ sym q.val t) (small h add-abs)

  pub sub-fits : A + B < 2 ^ hbits w → SFits w (to_z w a -ℤ to_z w b)
  sub-fits h = subst (SFits w) (λ t. sym p.val t -ℤ sym q.val t) (small h sub-abs)

  pub mul-fits : A * B < 2 ^ hbits w → SFits w (to_z w a *ℤ to_z w b)
  mul-fits h = subst (SFits w) (λ t. sym p.val t *ℤ sym q.val t) (small h mul-abs)

  pub add_v : A + B < 2 ^ hbits w → Is w (of_z w (to_z w a +ℤ to_z w b)) (x +ℤ y) (A + B)
  add_v h = put (λ t. p.val t +ℤ q.val t) (small h add-abs) add-abs

  pub sub_v : A + B < 2 ^ hbits w → Is w (of_z w (to_z w a -ℤ to_z w b)) (x -ℤ y) (A + B)
  sub_v h = put (λ t. p.val t -ℤ q.val t) (small h sub-abs) sub-abs

  pub mul_v : A * B < 2 ^ hbits w → Is w (of_z w (to_z w a *ℤ to_z w b)) (x *ℤ y) (A * B)
  mul_v h = put (λ t. p.val t *ℤ q.val t) (small h mul-abs) mul-abs

  pub lt_no : lt_z (to_z w a) (to_z w b) ≡ false → y ≤ℤ x
  lt_no e = lt_z_no (subst (λ (c : Bool). T (not c)) (sym e ∙ (λ t. lt_z (p.val t) (q.val t))) tt)

module _ {w : Width} {a : ℕ} {x : ℤ} {A : ℕ} (p : Is w a x A) where
  -- a cast, by the size or by what else is known
  pub cast_fits : {w' : Width} → A < 2 ^ hbits w' → SFits w' (to_z w a)
  cast_fits {w'} h = subst (SFits w') (sym p.val) (small h p.abs)

  pub cast_v : {w' : Width} → A < 2 ^ hbits w' → Is w' (of_z w' (to_z w a)) x A
  cast_v h = put p.val (small h p.abs) p.abs

  pub cast-fits! : {w' : Width} → SFits w' x → SFits w' (to_z w a)
  cast-fits! {w'} f = subst (SFits w') (sym p.val) f

  pub cast_v! : {w' : Width} → SFits w' x → Is w' (of_z w' (to_z w a)) x A
  cast_v! f = put p.val f p.abs

  shr-abs : (m : ℕ) → nat_abs (shr_z x m) ≤ A
  shr-abs m = le_trans (go x m) p.abs
    where
      go : (z : ℤ) (m : ℕ) → nat_abs (shr_z z m) ≤ nat_abs z
      go (pos n) m = mag_shr (pos n) m
      go (negsuc n) m = omega (arith, mag_shr (negsuc n) m)

  pub shr_v : (m : ℕ) → A < 2 ^ hbits w → Is w (of_z w (shr_z (to_z w a) m)) (shr_z x m) A
  shr_v m h = put (ap (λ (z : ℤ). shr_z z m) p.val) (small h (shr-abs m)) (shr-abs m)
