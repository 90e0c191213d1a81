-- What kind and direction take, stated over the size: the weights of a line from a stored order. Assumes nothing.
use mathlib.Core.Path.{◌≡◌, refl, sym, ◌∙◌}
use mathlib.Core.Bool.{Bool, true, false}
use mathlib.Core.List.{List}
use Prim.Native.Nat.{ℕ, ◌+◌, ◌*◌}
use native.Mathlib.Nat.{le_refl}
use native.Mathlib.Omega.{arith}
use borrow.Author.Tests.{ne_eqb}
use lib.ListN.{replicate, length-replicate}
use lib.IntN.{ℤ, pos}
use Rattle.algebra.proofs.Lists.{zeros-at}
use Rattle.meaning.specs.Weights.{weight}
use Rattle.product.specs.Product.{spot, Laid}
use Rattle.product.proofs.Laid.{laid-less}
use Rattle.tables.specs.Term.{term}
use Rattle.tables.proofs.Pairs.{place-held}

-- an order of weights W, by rows of a forward and by columns of an inverse line, is that of a kind whose weights they are
module _ (n pairs kind : ℕ) (forward : Bool) {t : List ℤ} {W : ℕ → ℕ → ℤ} (same : (i j : ℕ) → weight kind n i j ≡ W i j) where
  pub by_rows : forward ≡ true → Laid n pairs 2 (2 * n) (λ i j. W j i) t → Laid n pairs 2 (2 * n) (λ i j. term forward kind n j i) t
  by_rows f = laid-less (le_refl n) (le_refl pairs) (λ i j h g. rw f (sym (same j i)))

  pub by-columns : forward ≡ false → Laid n pairs 2 (2 * n) W t → Laid n pairs 2 (2 * n) (λ i j. term forward kind n j i) t
  by-columns f = laid-less (le_refl n) (le_refl pairs) (λ i j h g. rw f (sym (same i j)))

  -- weights that are their own transpose
  pub either_way : Laid n pairs 2 (2 * n) W t → Laid n pairs 2 (2 * n) (λ i j. W j i) t → Laid n pairs 2 (2 * n) (λ i j. term forward kind n j i) t
  either_way a b = pick forward refl
    where
      pick : (f : Bool) → forward ≡ f → Laid n pairs 2 (2 * n) (λ i j. term forward kind n j i) t
      pick true e = by_rows e b
      pick false e = by-columns e a

-- a number that is no kind weighs nothing
pub no_kind : (n pairs kind : ℕ) (forward : Bool) {m : ℕ} → (kind ≡ 1 → ⊥) → (kind ≡ 2 → ⊥) → (kind ≡ 0 → ⊥) → pairs * (2 * n) ≡ m
    → Laid n pairs 2 (2 * n) (λ i j. term forward kind n j i) (replicate m (pos 0))
unfolding weight
no_kind n pairs kind forward {m} a b d e =
    record {
      held = λ i j h g. omega (arith, place-held n i j g pairs h, length-replicate m (pos 0));
      right = λ i j h g. zeros-at m (2 * j + spot (2 * n) i) ∙ none forward i j;
    }
  where
    none : (f : Bool) (i j : ℕ) → pos 0 ≡ term f kind n j i
    none true i j = rw (ne_eqb kind 1 a, ne_eqb kind 2 b, ne_eqb kind 0 d) refl
    none false i j = rw (ne_eqb kind 1 a, ne_eqb kind 2 b, ne_eqb kind 0 d) refl
