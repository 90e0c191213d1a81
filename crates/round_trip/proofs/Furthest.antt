-- "Result j differs from 4096*N*x[j] by at most M*D(j)" (`strays`), for any line of whole numbers, once over the size and the
-- kind; and some line of numbers of size M differs as much (`reached`). Assumes nothing.
use mathlib.Core.Path.{◌≡◌, refl, sym, ap, ◌∙◌}
use mathlib.Core.Bool.{Bool, cond}
use mathlib.Core.List.{[], ◌∷◌}
use Prim.Native.Nat.{ℕ, zero, suc, ◌+◌, ◌*◌, ◌≤◌, ◌<◌}
use native.Mathlib.Nat.{not-suc-le-zero}
use native.Mathlib.Omega.{arith}
use borrow.Author.Tests.{eq-eqb, ne_eqb}
use lib.Dec.{eqb}
use lib.IntN.{ℤ, pos, negsuc, neg_ℤ, nat_abs, ◌+ℤ◌, ◌-ℤ◌, ◌*ℤ◌, +ℤ_idl, +ℤ_idr, zero-*ℤ}
use Rattle.algebra.specs.Sum.{sum, sumℕ}
use Rattle.algebra.proofs.Normal.{ν, ◌⊕◌, ◌⊖◌, ◌⊗◌, ⊝, ring}
use Rattle.algebra.proofs.Order.{abs_neg}
use Rattle.algebra.proofs.Sum.{sum-cong, sum-add, sum-scale, sum-neg, sum-swap, sum-none, abs-dot, sumℕ-scale}
use Rattle.algebra.proofs.Table.{last}
use Rattle.meaning.specs.Weights.{weight}
use Rattle.meaning.specs.Line.{forward_sum, inverse_sum}
use Rattle.round_trip.specs.RoundTrip.{round_trip, G, less, D}

-- a sum of which all but one number are 0
alone : (n j : ℕ) (c : ℤ) (x : ℕ → ℤ) → j < n → sum n (λ k. cond (eqb k j) c (pos 0) *ℤ x k) ≡ c *ℤ x j
unfolding sum
alone zero j c x h = absurd (not-suc-le-zero h)
alone (suc n) j c x h = last (λ j. sum n (term j) +ℤ term j n ≡ c *ℤ x j) n j h here (λ l. before (alone n j c x l) l)
  where
    term : ℕ → ℕ → ℤ
    term j k = cond (eqb k j) c (pos 0) *ℤ x k

    -- where k is not j
    nothing : (k j : ℕ) → (k ≡ j → ⊥) → term j k ≡ pos 0
    nothing k j d = ap (λ (b : Bool). cond b c (pos 0) *ℤ x k) (ne_eqb k j d) ∙ zero-*ℤ (x k)

    here : sum n (term n) +ℤ term n n ≡ c *ℤ x n
    here =
        ap (λ (z : ℤ). z +ℤ term n n) (sum-cong n (term n) (λ k. pos 0) (λ k l. nothing k n (λ e. omega arith)) ∙ sum-none n)
        ∙ +ℤ_idl (term n n) ∙ ap (λ (b : Bool). cond b c (pos 0) *ℤ x n) (eq-eqb n n refl)

    before : sum n (term j) ≡ c *ℤ x j → j < n → sum n (term j) +ℤ term j n ≡ c *ℤ x j
    before e l = ap (λ (z : ℤ). sum n (term j) +ℤ z) (nothing n j (λ e. omega arith)) ∙ +ℤ_idr (sum n (term j)) ∙ e

module _ (kind n : ℕ) (x : ℕ → ℤ) (j : ℕ) where
  abbrev w : ℕ → ℕ → ℤ
  w i k = weight kind n i k

  column : (k : ℕ) → sum n (λ i. w i j *ℤ (w i k *ℤ x k)) ≡ sum n (λ i. w i j *ℤ w i k) *ℤ x k
  column k =
      sum-cong n (λ i. w i j *ℤ (w i k *ℤ x k)) (λ i. x k *ℤ (w i j *ℤ w i k))
      (λ i _. ring (w i j ∷ w i k ∷ x k ∷ []) (ν 0 ⊗ (ν 1 ⊗ ν 2)) (ν 2 ⊗ (ν 0 ⊗ ν 1)) refl)
      ∙ sum-scale n (x k) (λ i. w i j *ℤ w i k)
      ∙ ring (x k ∷ sum n (λ i. w i j *ℤ w i k) ∷ []) (ν 0 ⊗ ν 1) (ν 1 ⊗ ν 0) refl

  -- the round trip is one sum over the inputs
  by-columns : round_trip kind n x j ≡ sum n (λ k. G kind n j k *ℤ x k)
  unfolding round_trip G inverse_sum forward_sum
  by-columns =
      sum-cong n (λ i. w i j *ℤ sum n (λ k. w i k *ℤ x k)) (λ i. sum n (λ k. w i j *ℤ (w i k *ℤ x k))) (λ i _. sym (sum-scale n (w i j) (λ k. w i k *ℤ x k)))
      ∙ sum-swap n n (λ i k. w i j *ℤ (w i k *ℤ x k))
      ∙ sum-cong n (λ k. sum n (λ i. w i j *ℤ (w i k *ℤ x k))) (λ k. sum n (λ i. w i j *ℤ w i k) *ℤ x k) (λ k _. column k)

  -- what is off, as one sum
  pub off : j < n → round_trip kind n x j -ℤ pos (4096 * n) *ℤ x j ≡ sum n (λ k. less kind n j k *ℤ x k)
  unfolding less
  off h =
      let g : ℕ → ℤ = λ k. G kind n j k in
      let e : ℕ → ℤ = λ k. cond (eqb k j) (pos (4096 * n)) (pos 0) in
      (λ t. by-columns t -ℤ sym (alone n j (pos (4096 * n)) x h) t)
      ∙ ap (λ (z : ℤ). sum n (λ k. g k *ℤ x k) +ℤ z) (sym (sum-neg n (λ k. e k *ℤ x k)))
      ∙ sym (sum-add n (λ k. g k *ℤ x k) (λ k. neg_ℤ (e k *ℤ x k)))
      ∙ sum-cong n (λ k. g k *ℤ x k +ℤ neg_ℤ (e k *ℤ x k)) (λ k. (g k -ℤ e k) *ℤ x k)
      (λ k _. ring (g k ∷ e k ∷ x k ∷ []) (ν 0 ⊗ ν 2 ⊕ ⊝ (ν 1 ⊗ ν 2)) ((ν 0 ⊖ ν 1) ⊗ ν 2) refl)

-- "For a line of N whole numbers of size at most M"
pub strays : (kind n : ℕ) (x : ℕ → ℤ) (M : ℕ) → ((k : ℕ) → k < n → nat_abs (x k) ≤ M) → (j : ℕ) → j < n
    → nat_abs (round_trip kind n x j -ℤ pos (4096 * n) *ℤ x j) ≤ D kind n j * M
unfolding D
strays kind n x M small j h = rw (off kind n x j h) (abs-dot n (less kind n j) x M small)

-- ---- the bound is reached: every number of size M, with the sign of what it is taken by
abbrev toward : ℤ → ℕ → ℤ
toward (pos m) M = pos M
toward (negsuc m) M = neg_ℤ (pos M)

toward-size : (z : ℤ) (M : ℕ) → nat_abs (toward z M) ≡ M
toward-size (pos m) M = refl
toward-size (negsuc m) M = abs_neg (pos M)

toward-times : (z : ℤ) (M : ℕ) → z *ℤ toward z M ≡ pos (nat_abs z * M)
toward-times (pos m) M = refl
toward-times (negsuc m) M = ring (negsuc m ∷ pos M ∷ []) (ν 0 ⊗ ⊝ (ν 1)) (⊝ (ν 0) ⊗ ν 1) refl

sum-pos : (n : ℕ) (f : ℕ → ℕ) → sum n (λ k. pos (f k)) ≡ pos (sumℕ n f)
unfolding sum sumℕ
sum-pos zero f = refl
sum-pos (suc n) f = ap (λ (z : ℤ). z +ℤ pos (f n)) (sum-pos n f)

module _ (kind n M j : ℕ) where
  -- the line that strays furthest at place j
  abbrev pub furthest : ℕ → ℤ
  furthest k = toward (less kind n j k) M

  pub reached : j < n → ((k : ℕ) → nat_abs (furthest k) ≡ M) × (nat_abs (round_trip kind n furthest j -ℤ pos (4096 * n) *ℤ furthest j) ≡ D kind n j * M)
  unfolding D
  reached h =
      let e : ℕ → ℕ = λ k. nat_abs (less kind n j k) in (
        (λ k. toward-size (less kind n j k) M),
        ap nat_abs (off kind n furthest j h
            ∙ sum-cong n (λ k. less kind n j k *ℤ furthest k) (λ k. pos (e k * M)) (λ k _. toward-times (less kind n j k) M)
            ∙ sum-pos n (λ k. e k * M))
            ∙ sumℕ-scale n e M,
      )
