-- The weights of each kind. Assumes nothing.
use mathlib.Core.Path.{◌≡◌}
use Prim.Native.Nat.{ℕ}
use Rattle.meaning.specs.Weights.{weight, S, C, dct2}

module _ (kind : ℕ) where
  pub dst : kind ≡ 1 → (n i j : ℕ) → weight kind n i j ≡ S n i j
  unfolding weight
  dst e n i j = rw e

  pub is-dct8 : kind ≡ 2 → (n i j : ℕ) → weight kind n i j ≡ C n i j
  unfolding weight
  is-dct8 e n i j = rw e

  pub is-dct2 : kind ≡ 0 → (n i j : ℕ) → weight kind n i j ≡ dct2 n i j
  unfolding weight
  is-dct2 e n i j = rw e
