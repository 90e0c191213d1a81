-- A sum that a loop carries: the first n products are in it, and each is at most 2^54. Assumes nothing.
use native.Mathlib.Omega.{arith}
use mathlib.Core.Path.{◌≡◌, refl, sym, ◌∙◌, subst}
use mathlib.Core.List.{List}
use Prim.Native.Nat.{ℕ, ◌+◌, ◌*◌, ◌≤◌}
use lib.IntN.{ℤ, nat_abs, ◌+ℤ◌, ◌*ℤ◌}
use mir.Syntax.{w64}
use mir.Val.{SFits, to_z, of_z}
use mir.ValLaws.{to_z-of_z}
use Rattle.algebra.specs.Sum.{sum}
use Rattle.algebra.specs.Lists.{at}
use Rattle.algebra.proofs.Sum.{sum-next}
use Rattle.product.specs.Product.{spot}

-- number i times its weight in output x of w, as weights are stored
abbrev pub product : List ℤ → ℕ → ℕ → (ℕ → ℤ) → ℕ → ℤ
product t w x f i = at t (2 * x + spot (2 * w) i) *ℤ f i

pub record Running (t : List ℤ) (w x n : ℕ) (f : ℕ → ℤ) (bits : ℕ) : Type 0 where
  pub is : to_z w64 bits ≡ sum n (product t w x f)
  pub small : nat_abs (to_z w64 bits) ≤ n * 18014398509481984

pub running_none : (t : List ℤ) (w x : ℕ) (f : ℕ → ℤ) → Running t w x 0 f 0
unfolding sum
running_none t w x f = record { is = refl; small = omega arith }

module _ {t : List ℤ} {w x n : ℕ} {f : ℕ → ℤ} {bits : ℕ} (p : Running t w x n f bits) where
  pub running-next : (r q v : ℤ) → SFits w64 r → (r ≡ to_z w64 bits +ℤ q *ℤ v) × (nat_abs r ≤ nat_abs (to_z w64 bits) + 18014398509481984)
      → q ≡ at t (2 * x + spot (2 * w) n) → v ≡ f n → Running t w x (n + 1) f (of_z w64 r)
  running-next r q v fits (e, b) eq ev =
      let z = to_z-of_z w64 r fits in
      record {
        is = z ∙ e ∙ (λ i. p.is i +ℤ eq i *ℤ ev i) ∙ sym (sum-next n (product t w x f));
        small = subst (λ (k : ℤ). nat_abs k ≤ (n + 1) * 18014398509481984) (sym z) (omega (arith, b, p.small));
      }
