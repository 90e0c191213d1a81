-- The search for the first place, one step on. Assumes nothing.
use mathlib.Core.Path.{◌≡◌, refl, sym, ap, ◌∙◌}
use mathlib.Core.Bool.{Bool, true, false, cond}
use mathlib.Core.List.{List, [], ◌∷◌}
use Prim.Native.Nat.{ℕ, zero, suc, ◌<◌, ◌≤◌, ◌+◌}
use native.Mathlib.Nat.{add-zero, le_of_suc-le-suc, not-suc-le-zero}
use native.Mathlib.Numerals.{add-one}
use native.Mathlib.Omega.{arith}
use lib.IntN.{ℤ, pos}
use lib.ListN.{length, drop, drop_of_length-le}
use lib.Seq.{drop-cons}
use Rattle.algebra.specs.Lists.{at}
use Rattle.algebra.specs.First.{first_at}

module _ (p : ℕ → ℤ → Bool) (l : List ℤ) (k : ℕ) (h : k < length l) where
  unfolded : first_at p k (drop k l) ≡ cond (p k (at l k)) k (first_at p (suc k) (drop (suc k) l))
  unfolding first_at
  unfolded = rw (drop-cons l k (pos 0))

  -- a place that fails the test is left behind
  pub first_on : p k (at l k) ≡ false → first_at p k (drop k l) ≡ first_at p (k + 1) (drop (k + 1) l)
  first_on e = rw (add-one, unfolded, e)

  -- the first that passes it is the answer
  pub first-here : p k (at l k) ≡ true → first_at p k (drop k l) ≡ k
  first-here e = rw (unfolded, e)

pub first-none : (p : ℕ → ℤ → Bool) (l : List ℤ) (k : ℕ) → length l ≤ k → first_at p k (drop k l) ≡ k
unfolding first_at
first-none p l k h = rw (drop_of_length-le l h)

-- places before the first fail the test; l stands from place k on
pub first-before : (p : ℕ → ℤ → Bool) (l : List ℤ) (k i : ℕ) → i < length l → k + i < first_at p k l → p (k + i) (at l i) ≡ false
unfolding first_at
first-before p [] k i h b = absurd (not-suc-le-zero h)
first-before p (z ∷ l) k i h b = here (p k z) refl (λ i. first-before p l (suc k) i) i h b
  where
    here : (c : Bool) → p k z ≡ c
        → ((i : ℕ) → i < length l → suc k + i < first_at p (suc k) l → p (suc k + i) (at l i) ≡ false)
        → (i : ℕ) → i < length (z ∷ l) → k + i < cond c k (first_at p (suc k) l) → p (k + i) (at (z ∷ l) i) ≡ false
    here true e on i h b = absurd (omega arith)
    here false e on zero h b = rw (add-zero k, e)
    here false e on (suc i) h b =
        let q : k + suc i ≡ suc k + i = omega arith in
        rw q (on i (le_of_suc-le-suc h) (omega arith))

-- where every place fails the test, the search runs past the end; l stands from place k on
pub first_past : (p : ℕ → ℤ → Bool) (l : List ℤ) (k : ℕ) → ((i : ℕ) → i < length l → p (k + i) (at l i) ≡ false) → first_at p k l ≡ k + length l
unfolding first_at
first_past p [] k e = sym (add-zero k)
first_past p (z ∷ l) k e =
    let here : p k z ≡ false = ap (λ (m : ℕ). p m z) (sym (add-zero k)) ∙ e 0 (omega arith) in
    let more : (i : ℕ) → suc k + i ≡ k + suc i = λ i. omega arith in
    rw here (first_past p l (suc k) (λ i h. ap (λ (m : ℕ). p m (at l i)) (more i) ∙ e (suc i) (omega arith)) ∙ omega arith)
