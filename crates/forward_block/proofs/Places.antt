-- Lines that a stage puts one below the other. Assumes nothing.
use mathlib.Core.Path.{◌≡◌, refl, sym, ap, ◌∙◌, subst}
use mathlib.Core.List.{List}
use Prim.Native.Nat.{ℕ, ◌+◌, ◌*◌, ◌≤◌, ◌<◌}
use native.Mathlib.Nat.{not-suc-le-zero}
use native.Mathlib.Decide.{ℕ_discrete}
use native.Mathlib.Omega.{arith}
use lib.IntN.{ℤ}
use Rattle.algebra.specs.Lists.{at}
use Rattle.algebra.proofs.Lists.{Filled, row_in}
use Rattle.forward_block.specs.Stage.{Stage}

-- ---- lines
module _ {kept wide : ℕ} {f : ℕ → ℕ → ℤ} where
  pub stage-none : (a : List ℤ) → Stage kept wide 0 f a a
  stage-none a =
      record { long = refl; done = λ x y h g. absurd (not-suc-le-zero g); beside = λ x y h v g. absurd (not-suc-le-zero g); below = λ k h. refl }

  -- one line more: it touches no row before it, and none after it
  pub stage-next : {y : ℕ} {b a a₀ : List ℤ} → kept ≤ wide → Stage kept wide y f a a₀ → Filled (y * wide) kept b a (λ x. f x y) → Stage kept wide (y + 1) f b a₀
  stage-next {y} {b} {a} {a₀} w p q =
      record {
        long = q.long ∙ p.long;
        done = λ x v h g. in-line x v h g (ℕ_discrete v y);
        beside = λ x v h l g. off-line x v h l g (ℕ_discrete v y);
        below = λ k h. q.after k (omega arith) ∙ p.below k (omega arith);
      }
    where
      in-line : (x v : ℕ) → x < kept → v < y + 1 → Dec (v ≡ y) → at b (x + v * wide) ≡ f x v
      in-line x v h g (yes e) =
          let s : x + y * wide ≡ y * wide + x = omega arith in
          subst (λ (m : ℕ). at b (x + m * wide) ≡ f x m) (sym e) (ap (at b) s ∙ q.done x h)
      in-line x v h g (no n) =
          let l : v < y = omega arith in
          q.before (x + v * wide) (omega (arith, row_in wide l)) ∙ p.done x v h l

      off-line : (x v : ℕ) → kept ≤ x → x < wide → v < y + 1 → Dec (v ≡ y) → at b (x + v * wide) ≡ at a₀ (x + v * wide)
      off-line x v h u g (yes e) =
          let s : y * wide + kept ≤ x + v * wide = subst (λ (m : ℕ). y * wide + kept ≤ x + m * wide) (sym e) (omega arith) in
          let t : y * wide ≤ x + v * wide = omega arith in
          q.after (x + v * wide) s ∙ p.below (x + v * wide) t
      off-line x v h u g (no n) =
          let l : v < y = omega arith in
          q.before (x + v * wide) (omega (arith, row_in wide l)) ∙ p.beside x v h u l
