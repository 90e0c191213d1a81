-- Rows that are written from the last one up: those from y on are done, and what stands before them is as it was. Assumes nothing.
use native.Mathlib.Omega.{arith}
use mathlib.Core.Path.{◌≡◌, refl, sym, ap, ◌∙◌, subst}
use mathlib.Core.List.{List}
use Prim.Native.Nat.{ℕ, ◌+◌, ◌*◌, ◌-◌, ◌≤◌, ◌<◌}
use native.Mathlib.Nat.{add_comm, mul-le-mul_right}
use native.Mathlib.Decide.{ℕ_discrete}
use lib.ListN.{length}
use lib.IntN.{ℤ}
use Rattle.algebra.specs.Lists.{at, block}
use Rattle.algebra.proofs.Lists.{Filled, block-ext, row_in}

pub record Back (w h y : ℕ) (f : ℕ → ℕ → ℤ) (m m₀ : List ℤ) : Type 0 where
  pub long : length m ≡ length m₀
  pub as_it_was : (k : ℕ) → k < y * w → at m k ≡ at m₀ k
  pub done : (x z : ℕ) → x < w → y ≤ z → z < h → at m (x + z * w) ≡ f x z

pub back_none : (w h : ℕ) (f : ℕ → ℕ → ℤ) (m : List ℤ) → Back w h h f m m
back_none w h f m = record { long = refl; as_it_was = λ k _. refl; done = λ x z _ l g. absurd (omega arith) }

-- one row more
pub back-next : {w h y : ℕ} {f : ℕ → ℕ → ℤ} {m m₁ m₀ : List ℤ} (up : ℕ) → up ≡ y + 1 → Back w h up f m m₀ → Filled (y * w) w m₁ m (λ x. f x y) → Back w h y f m₁ m₀
back-next {w} {h} {y} {f} {m} {m₁} {m₀} up e p q =
    record {
      long = q.long ∙ p.long;
      as_it_was = λ k g. q.before k g ∙ p.as_it_was k (omega (arith, g, further));
      done = λ x z g l v. one x z g l v (ℕ_discrete z y);
    }
  where
    further : y * w ≤ up * w
    further = mul-le-mul_right w (omega arith)

    one : (x z : ℕ) → x < w → y ≤ z → z < h → Dec (z ≡ y) → at m₁ (x + z * w) ≡ f x z
    one x z g l v (yes d) =
        subst (λ (z : ℕ). at m₁ (x + z * w) ≡ f x z) (sym d) (ap (at m₁) (add_comm x (y * w)) ∙ q.done x g)
    one x z g l v (no n) =
        let b : y < z = omega (arith, n) in
        q.after (x + z * w) (omega (arith, row_in w b)) ∙ p.done x z g (omega arith) v

-- all rows
pub back-all : {w h y : ℕ} {f : ℕ → ℕ → ℤ} {m m₀ : List ℤ} → y ≡ 0 → length m₀ ≡ h * w → Back w h y f m m₀ → m ≡ block w h f
back-all {w} {h} {y} {f} {m} e l p = block-ext w h f m (p.long ∙ l) (λ x z g v. p.done x z g (omega arith) v)

-- the row before y
pub row_below : {y : ℕ} (w : ℕ) → 0 < y → (y - 1) * w + w ≤ y * w
row_below w h = row_in w (omega arith)
