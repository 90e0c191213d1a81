-- The split into halves, once over the size: a line of n = 2h points is a line of h points and a product of h rows of h. The weights
-- are all that it asks (`Halves`); the inverse reads them by columns, the forward by rows. Assumes nothing.
--   inverse-low, inverse-high:  z[j] = E[j] + O[j],  z[n-1-j] = E[j] - O[j],  E the line of h points over the even inputs
--   forward-even, forward-odd:  y[2i] is the line of h points over x[j] + x[n-1-j],  y[2i+1] a row over x[j] - x[n-1-j]
use mathlib.Core.Path.{◌≡◌, refl, sym, ap, ◌∙◌}
use mathlib.Core.List.{[], ◌∷◌}
use Prim.Native.Nat.{ℕ, zero, suc, ◌+◌, ◌*◌, ◌-◌, ◌≤◌, ◌<◌}
use native.Mathlib.Omega.{arith}
use lib.IntN.{ℤ, neg_ℤ, ◌+ℤ◌, ◌-ℤ◌, ◌*ℤ◌}
use Rattle.algebra.specs.Sum.{sum}
use Rattle.algebra.proofs.Ring.{neg-*ℤ, *ℤ-neg, *ℤ-add}
use Rattle.algebra.proofs.Normal.{ν, ◌⊕◌, ring! }
use Rattle.algebra.proofs.Sum.{sum-cong, sum-add, sum-neg, sum-split, sum-rev}
use Rattle.meaning.specs.Weights.{weight}
use Rattle.meaning.specs.Line.{forward_sum, inverse_sum}
use Rattle.halves.specs.Halves.{Halves, odd, odd_sum, evens, end_sums, end_differences}

-- ---- a sum by its even and odd places, and by places from both ends
sum-halves : (c : ℕ) (f : ℕ → ℤ) → sum (c + c) f ≡ sum c (λ i. f (2 * i)) +ℤ sum c (λ i. f (2 * i + 1))
unfolding sum
sum-halves zero f = refl
sum-halves (suc c) f =
    let two : suc c + suc c ≡ suc (suc (c + c)) = omega arith in
    let a : c + c ≡ 2 * c = omega arith in
    let b : suc (c + c) ≡ 2 * c + 1 = omega arith in
    ap (λ (m : ℕ). sum m f) two
    ∙ (λ t. sum-halves c f t +ℤ f (a t) +ℤ f (b t))
    ∙ ring! (sum c (λ i. f (2 * i)) ∷ sum c (λ i. f (2 * i + 1)) ∷ f (2 * c) ∷ f (2 * c + 1) ∷ []) (ν 0 ⊕ ν 1 ⊕ ν 2 ⊕ ν 3) (ν 0 ⊕ ν 2 ⊕ (ν 1 ⊕ ν 3)) tt

sum-ends : (n h : ℕ) → n ≡ h + h → (f : ℕ → ℤ) → sum n f ≡ sum h (λ j. f j +ℤ f (n - 1 - j))
sum-ends n h e f =
    ap (λ (m : ℕ). sum m f) e
    ∙ sum-split h h f
    ∙ ap (λ (z : ℤ). sum h f +ℤ z) (sum-rev h (λ i. f (h + i)) ∙ sum-cong h (λ i. f (h + (h - suc i))) (λ j. f (n - 1 - j)) (λ j l. ap f (back j l)))
    ∙ sym (sum-add h f (λ j. f (n - 1 - j)))
  where
    back : (j : ℕ) → j < h → h + (h - suc j) ≡ n - 1 - j
    back j l = omega arith

module _ {n h : ℕ} (p : Halves n h) (x : ℕ → ℤ) where
  abbrev W : ℕ → ℕ → ℤ
  W i j = weight 0 n i j

  -- ---- inverse, over the first 2 * c inputs
  module _ (c : ℕ) (few : c ≤ h) (j : ℕ) (l : j < h) where
    -- z[j] = E[j] + O[j]
    pub inverse-low : inverse_sum 0 n (c + c) x j ≡ inverse_sum 0 h c (evens x) j +ℤ odd_sum n c x j
    unfolding inverse_sum odd_sum
    inverse-low =
        sum-halves c (λ i. W i j *ℤ x i)
        ∙ ap (λ (z : ℤ). z +ℤ sum c (λ i. W (2 * i + 1) j *ℤ x (2 * i + 1)))
        (sum-cong c (λ i. W (2 * i) j *ℤ x (2 * i)) (λ i. weight 0 h i j *ℤ x (2 * i)) (λ i q. ap (λ (w : ℤ). w *ℤ x (2 * i)) (p.even i j (omega arith) l)))

    -- z[n-1-j] = E[j] - O[j]
    pub inverse-high : inverse_sum 0 n (c + c) x (n - 1 - j) ≡ inverse_sum 0 h c (evens x) j -ℤ odd_sum n c x j
    unfolding inverse_sum odd_sum
    inverse-high =
        sum-halves c (λ i. W i (n - 1 - j) *ℤ x i)
        ∙ (λ t. sum-cong c (λ i. W (2 * i) (n - 1 - j) *ℤ x (2 * i)) (λ i. weight 0 h i j *ℤ x (2 * i)) same t
        +ℤ sum-cong c (λ i. W (2 * i + 1) (n - 1 - j) *ℤ x (2 * i + 1)) (λ i. neg_ℤ (W (2 * i + 1) j *ℤ x (2 * i + 1))) other t)
        ∙ ap (λ (z : ℤ). sum c (λ i. weight 0 h i j *ℤ x (2 * i)) +ℤ z) (sum-neg c (λ i. W (2 * i + 1) j *ℤ x (2 * i + 1)))
      where
        same : (i : ℕ) → i < c → weight 0 n (2 * i) (n - 1 - j) *ℤ x (2 * i) ≡ weight 0 h i j *ℤ x (2 * i)
        same i q = ap (λ (w : ℤ). w *ℤ x (2 * i)) (p.mirrored i j (omega arith) l ∙ p.even i j (omega arith) l)

        other : (i : ℕ) → i < c → weight 0 n (2 * i + 1) (n - 1 - j) *ℤ x (2 * i + 1) ≡ neg_ℤ (weight 0 n (2 * i + 1) j *ℤ x (2 * i + 1))
        other i q = ap (λ (w : ℤ). w *ℤ x (2 * i + 1)) (p.turned i j (omega arith) l) ∙ neg-*ℤ (weight 0 n (2 * i + 1) j) (x (2 * i + 1))

  -- ---- forward
  module _ (i : ℕ) (l : i < h) where
    -- y[2i] is y[i] of h points over x[j] + x[n-1-j]
    pub forward-even : forward_sum 0 n x (2 * i) ≡ forward_sum 0 h (end_sums n x) i
    unfolding forward_sum
    forward-even =
        sum-ends n h p.doubled (λ j. W (2 * i) j *ℤ x j)
        ∙ sum-cong h (λ j. W (2 * i) j *ℤ x j +ℤ W (2 * i) (n - 1 - j) *ℤ x (n - 1 - j)) (λ j. weight 0 h i j *ℤ end_sums n x j) both
      where
        both : (j : ℕ) → j < h → weight 0 n (2 * i) j *ℤ x j +ℤ weight 0 n (2 * i) (n - 1 - j) *ℤ x (n - 1 - j) ≡ weight 0 h i j *ℤ (x j +ℤ x (n - 1 - j))
        both j q =
            (λ t. p.even i j l q t *ℤ x j +ℤ (p.mirrored i j l q ∙ p.even i j l q) t *ℤ x (n - 1 - j))
            ∙ sym (*ℤ-add (weight 0 h i j) (x j) (x (n - 1 - j)))

    -- y[2i+1] is the first half of its row over x[j] - x[n-1-j]
    pub forward-odd : forward_sum 0 n x (2 * i + 1) ≡ sum h (λ j. odd n i j *ℤ end_differences n x j)
    unfolding forward_sum
    forward-odd =
        sum-ends n h p.doubled (λ j. W (2 * i + 1) j *ℤ x j)
        ∙ sum-cong h (λ j. W (2 * i + 1) j *ℤ x j +ℤ W (2 * i + 1) (n - 1 - j) *ℤ x (n - 1 - j)) (λ j. W (2 * i + 1) j *ℤ end_differences n x j) both
      where
        both : (j : ℕ) → j < h → weight 0 n (2 * i + 1) j *ℤ x j +ℤ weight 0 n (2 * i + 1) (n - 1 - j) *ℤ x (n - 1 - j) ≡ weight 0 n (2 * i + 1) j *ℤ (x j -ℤ x (n - 1 - j))
        both j q =
            let w = weight 0 n (2 * i + 1) j in
            ap (λ (v : ℤ). w *ℤ x j +ℤ v *ℤ x (n - 1 - j)) (p.turned i j l q)
            ∙ ap (λ (z : ℤ). w *ℤ x j +ℤ z) (neg-*ℤ w (x (n - 1 - j)) ∙ sym (*ℤ-neg w (x (n - 1 - j))))
            ∙ sym (*ℤ-add w (x j) (neg_ℤ (x (n - 1 - j))))
