-- The values in their places, four at a time, and rows that are done. Assumes nothing.
use mathlib.Core.Path.{◌≡◌, refl, ap, ◌∙◌, subst}
use mathlib.Core.Bool.{true, false}
use mathlib.Core.List.{List}
use Prim.Native.Nat.{ℕ, ◌+◌, ◌*◌, ◌-◌, ◌≤◌, ◌<◌}
use native.Mathlib.Omega.{arith}
use lib.IntN.{ℤ, pos}
use Rattle.algebra.specs.Lists.{at}
use Rattle.kernel_steps.specs.Written.{WroteFrom, Spread}
use Rattle.kernel_steps.proofs.Writing.{wrote-join, spread-next}
use Rattle.lfnst.specs.LowFrequency.{standing}
use Rattle.lfnst.specs.Work.{Placed}
use Rattle.lfnst.proofs.Standing.{wide-above, wide_below, wide-last, narrow-first}

-- what is written is the same where the values are
pub wrote_as : {o n : ℕ} {a a₀ : List ℤ} {f g : ℕ → ℤ} → WroteFrom o n a a₀ f → ((k : ℕ) → k < n → f k ≡ g k) → WroteFrom o n a a₀ g
wrote_as w e = record { long = w.long; done = λ k h. w.done k h ∙ e k h; before = w.before; after = w.after }

-- a row of eight, by its halves
pub halves : {p : ℕ} {a a₁ a₀ : List ℤ} {f g h : ℕ → ℤ} → WroteFrom p 4 a₁ a₀ f → WroteFrom (p + 4) 4 a a₁ g → ((k : ℕ) → k < 4 → f k ≡ h k) → ((k : ℕ) → k < 4 → g k ≡ h (4 + k)) → WroteFrom p 8 a a₀ h
halves {p} w v e d = wrote-join (p + 4) 8 refl refl (wrote_as w e) v d

-- one row more
pub next_row : {k y n : ℕ} {f : ℕ → ℕ → ℤ} {r r₁ r₀ : List ℤ} → k ≤ n → Spread k y 0 n f r₁ r₀ → WroteFrom (y * n) k r r₁ (λ x. f x y) → Spread k (y + 1) 0 n f r r₀
next_row {k} {y} {n} {f} {r} {r₁} l s w =
    let e : y * n ≡ y * n + 0 = omega arith in
    spread-next (omega arith) s (subst (λ (p : ℕ). WroteFrom p k r r₁ (λ x. f x y)) e w) (λ i h. refl)

-- all rows
pub placed : {n rows w : ℕ} {f : ℕ → ℕ → ℤ} {r r₀ : List ℤ} → Spread n rows 0 w f r r₀ → Placed n rows w f r₀ r
placed {n} {rows} {w} {f} {r} s = record { long = s.long; done = λ x y h l. ap (λ (k : ℕ). at r (k + y * w)) (zero_left x) ∙ s.done x y h l }
  where
    zero_left : (x : ℕ) → x ≡ 0 + x
    zero_left x = omega arith

module _ (v : List ℤ) (y : ℕ) where
  same : (i j : ℕ) → i ≡ j → at v i ≡ at v j
  same i j e = ap (at v) e

  pub straight-16 : y < 4 → (x : ℕ) → x < 4 → at v (4 * y + x * 1) ≡ standing false false (at v) x y
  unfolding standing
  straight-16 l x h = same (4 * y + x * 1) (x + 4 * y) (omega arith) ∙ narrow-first (at v) x y h l

  pub turned-16 : y < 4 → (x : ℕ) → x < 4 → at v (y + x * 4) ≡ standing false true (at v) x y
  unfolding standing
  turned-16 l x h = same (y + x * 4) (y + 4 * x) (omega arith) ∙ narrow-first (at v) y x l h

  -- four rows of 8
  pub above-left : y < 4 → (x : ℕ) → x < 4 → at v (8 * y + x * 1) ≡ standing true false (at v) x y
  unfolding standing
  above-left l x h = same (8 * y + x * 1) (x + 8 * y) (omega arith) ∙ wide-above (at v) x y (omega arith) l

  pub above-right : y < 4 → (x : ℕ) → x < 4 → at v (8 * y + 4 + x * 1) ≡ standing true false (at v) (4 + x) y
  unfolding standing
  above-right l x h = same (8 * y + 4 + x * 1) (4 + x + 8 * y) (omega arith) ∙ wide-above (at v) (4 + x) y (omega arith) l

  -- four rows of 4
  pub below_left : 4 ≤ y → y < 8 → (x : ℕ) → x < 4 → at v (16 + 4 * y + x * 1) ≡ standing true false (at v) x y
  unfolding standing
  below_left m l x h = same (16 + 4 * y + x * 1) (32 + x + 4 * (y - 4)) (omega arith) ∙ wide_below (at v) x y h m l

  pub below_right : 4 ≤ y → y < 8 → (x : ℕ) → x < 4 → pos 0 ≡ standing true false (at v) (4 + x) y
  unfolding standing
  below_right m l x h = wide-last (at v) (4 + x) y (omega arith) m (omega arith) l

  -- column by column
  pub turned_left : y < 8 → (x : ℕ) → x < 4 → at v (y + x * 8) ≡ standing true true (at v) x y
  unfolding standing
  turned_left l x h = same (y + x * 8) (y + 8 * x) (omega arith) ∙ wide-above (at v) y x l h

  pub turned_right : y < 4 → (x : ℕ) → x < 4 → at v (32 + y + x * 4) ≡ standing true true (at v) (4 + x) y
  unfolding standing
  turned_right l x h = same (32 + y + x * 4) (32 + y + 4 * (4 + x - 4)) (omega arith) ∙ wide_below (at v) y (4 + x) l (omega arith) (omega arith)

  pub turned-last : 4 ≤ y → y < 8 → (x : ℕ) → x < 4 → pos 0 ≡ standing true true (at v) (4 + x) y
  unfolding standing
  turned-last m l x h = wide-last (at v) y (4 + x) m (omega arith) l (omega arith)
