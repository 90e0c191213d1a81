-- The one stage of a thin block is the line of its other side over all of its inputs: those that are not kept are 0. Assumes nothing.
use mathlib.Core.Path.{◌≡◌, sym, ap, ◌∙◌}
use mathlib.Core.Bool.{true, false}
use mathlib.Core.List.{List}
use Prim.Native.Nat.{ℕ, ◌+◌, ◌*◌, ◌≤◌, ◌<◌}
use native.Mathlib.Nat.{zero-mul, zero-add, mul-one, one-mul, add-zero}
use native.Mathlib.Omega.{arith}
use borrow.Author.Tests.{eq-eqb}
use lib.Dec.{eqb}
use lib.IntN.{ℤ, pos, ◌*ℤ◌, *ℤ-zero}
use Rattle.algebra.specs.Shift.{nearest}
use Rattle.algebra.specs.Lists.{at, tabulate}
use Rattle.algebra.proofs.Sum.{sum-rest}
use Rattle.algebra.proofs.Lists.{tab-cong}
use Rattle.meaning.specs.declared.Shape.{Shape}
use Rattle.meaning.specs.Weights.{weight}
use Rattle.meaning.specs.Line.{inverse_sum}
use Rattle.layout.specs.Part.{Part}
use Rattle.thin_block.specs.Thin.{thin_shift, thin_sum, thin_residual, thin_block}

-- inputs that are 0 add nothing
kept-sum : (kind n kept : ℕ) (c : List ℤ) → kept ≤ n → ((i : ℕ) → kept ≤ i → i < n → at c i ≡ pos 0) → (k : ℕ) → inverse_sum kind n n (at c) k ≡ inverse_sum kind n kept (at c) k
unfolding inverse_sum
kept-sum kind n kept c l z k =
    sum-rest kept n (λ i. weight kind n i k *ℤ at c i) l (λ i g h. ap (λ (x : ℤ). weight kind n i k *ℤ x) (z i g h) ∙ *ℤ-zero (weight kind n i k))

-- the residuals of a line of n points, of depth d
abbrev pub lined : ℕ → ℕ → ℕ → List ℤ → List ℤ
lined n kind d c = tabulate n (λ k. nearest (thin_shift d) (inverse_sum kind n n (at c) k))

module _ (sh : Shape) (c : List ℤ) (kept : Part sh.width sh.height sh.columns sh.rows c) where
  abbrev w : ℕ
  w = sh.width

  abbrev h : ℕ
  h = sh.height

  -- one sample wide
  down : eqb w 1 ≡ true → (k : ℕ) → inverse_sum sh.vertical h sh.rows (at c) k ≡ thin_sum sh c k
  unfolding thin_sum
  down e k = rw e

  pub upright : w ≡ 1 → lined h sh.vertical sh.depth c ≡ thin_block sh c
  unfolding thin_block thin_residual
  upright e =
      tab-cong h _ (thin_residual sh c) (λ k l. ap (nearest (thin_shift sh.depth)) (kept-sum sh.vertical h sh.rows c kept.low zero k ∙ down (eq-eqb w 1 e) k))
      ∙ ap (λ (n : ℕ). tabulate n (thin_residual sh c)) (sym (ap (λ (w : ℕ). w * h) e ∙ one-mul h))
    where
      zero : (i : ℕ) → sh.rows ≤ i → i < h → at c i ≡ pos 0
      zero i g l =
          let p : 0 + i * w ≡ i = ap (λ (w : ℕ). 0 + i * w) e ∙ zero-add (i * 1) ∙ mul-one i in
          ap (at c) (sym p) ∙ kept.below 0 i (omega arith) g l

  -- one sample high
  across : eqb w 1 ≡ false → (k : ℕ) → inverse_sum sh.horizontal w sh.columns (at c) k ≡ thin_sum sh c k
  unfolding thin_sum
  across e k = rw e

  pub lying : eqb w 1 ≡ false → h ≡ 1 → lined w sh.horizontal sh.depth c ≡ thin_block sh c
  unfolding thin_block thin_residual
  lying n e =
      tab-cong w _ (thin_residual sh c) (λ k l. ap (nearest (thin_shift sh.depth)) (kept-sum sh.horizontal w sh.columns c kept.narrow zero k ∙ across n k))
      ∙ ap (λ (n : ℕ). tabulate n (thin_residual sh c)) (sym (ap (λ (h : ℕ). w * h) e ∙ mul-one w))
    where
      zero : (i : ℕ) → sh.columns ≤ i → i < w → at c i ≡ pos 0
      zero i g l =
          let p : i + 0 * w ≡ i = ap (λ (k : ℕ). i + k) (zero-mul w) ∙ add-zero i in
          ap (at c) (sym p) ∙ kept.right i 0 g l (omega arith)
