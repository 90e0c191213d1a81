-- A residual that a picture can hold, and its sample. Assumes nothing.
use mathlib.Core.Path.{◌≡◌, ap, ◌∙◌}
use mathlib.Core.Bool.{false}
use Prim.Native.Nat.{ℕ, suc, ◌+◌, ◌*◌, ◌/◌, ◌%◌, ◌≤◌, ◌<◌}
use native.Mathlib.Nat.{div-add-mod'}
use native.Mathlib.Omega.{arith}
use borrow.Author.Tests.{ltb-false}
use lib.Dec.{T}
use lib.IntN.{ℤ, pos, negsuc, nat_abs, ◌+ℤ◌, ◌-ℤ◌, +ℤ-neg_ℤ_cancel}
use lib.Signed.{lt_z, non_neg, pos-nat_abs}
use Rattle.algebra.proofs.Order.{subℕ-cases}
use Rattle.meaning.specs.Plan.{short_range}
use Rattle.meaning.specs.Long.{beyond}
use Rattle.meaning.proofs.Cases.{neither}
use Rattle.picture_samples.specs.Samples.{sample_of, residual_of}

pub record Inside (z : ℤ) : Type 0 where
  pub size : nat_abs z ≤ 32768
  pub whole : T (non_neg (z +ℤ pos 32768))
  pub low : sample_of z < 65536

pub inside : (z : ℤ) → beyond short_range z ≡ false → Inside z
unfolding short_range
inside (pos n) e =
    let h = ltb-false 32767 n (neither false (lt_z (pos 32767) (pos n)) e).1 in
    record { size = omega arith; whole = tt; low = omega arith }
inside (negsuc n) e =
    let h = ltb-false 32767 n (neither (lt_z (negsuc n) (negsuc 32767)) false e).0 in
    record {
      size = omega arith;
      whole = subℕ-cases 32768 (suc n) (λ z. T (non_neg z)) (λ l. absurd (omega arith)) (λ l. tt);
      low = subℕ-cases 32768 (suc n) (λ z. nat_abs z < 65536) (λ l. absurd (omega arith)) (λ l. omega arith);
    }

pub sample-back : (z : ℤ) → beyond short_range z ≡ false → residual_of (sample_of z / 256 * 256 + sample_of z % 256) ≡ z
unfolding residual_of
sample-back z e =
    ap (λ (n : ℕ). pos n -ℤ pos 32768) (div-add-mod' (sample_of z) 256)
    ∙ ap (λ (y : ℤ). y -ℤ pos 32768) (pos-nat_abs (z +ℤ pos 32768) (inside z e).whole)
    ∙ +ℤ-neg_ℤ_cancel z (pos 32768)
