-- Columns of two points, as far as a loop has written them. Assumes nothing.
use native.Mathlib.Omega.{arith}
use mathlib.Core.Path.{◌≡◌, refl, sym, ap, ◌∙◌, subst}
use mathlib.Core.List.{List}
use Prim.Native.Nat.{ℕ, ◌+◌, ◌*◌, ◌≤◌, ◌<◌}
use native.Mathlib.Decide.{ℕ_discrete}
use lib.IntN.{ℤ, pos, negsuc, ◌+ℤ◌, ◌*ℤ◌}
use lib.ListN.{length, set, length-set}
use lib.Seq.{get_or-set_same, get_or-set_other}
use Rattle.algebra.specs.Lists.{at}
use Rattle.meaning.specs.Line.{inverse_sum}
use Rattle.meaning.specs.Inverse.{rounded}
use Rattle.transform_line.proofs.Points.{first-sum, second-sum}
use Rattle.transform_two.specs.Two.{Crossed}

-- the number of column x in row y, 0 or 1
abbrev cross_at : ℕ → List ℤ → ℕ → ℕ → ℤ
cross_at step s x y = rounded (inverse_sum 0 2 2 (λ i. at s (x + i * step)) y)

pub cross-none : (step : ℕ) (s e : List ℤ) → length e ≡ 64 → Crossed step 0 s e
cross-none step s e long = record { long = long; done = λ x y h g. absurd (omega arith) }

pub cross-next : {step k : ℕ} {s e : List ℤ} (a b : ℤ) → k < step → step ≤ 32 → Crossed step k s e → a ≡ cross_at step s k 0 → b ≡ cross_at step s k 1
    → Crossed step (k + 1) s (set (set e k a) (step + k) b)
cross-next {step} {k} {s} {e} a b l near p ea eb =
    record { long = length-set (set e k a) (step + k) b ∙ length-set e k a ∙ p.long; done = λ x y h g. here x y h g (ℕ_discrete x k) (ℕ_discrete y 0) }
  where
    place : (x y : ℕ) → y < 2 → (y ≡ 0 → ⊥) → x + y * step ≡ x + step
    place x y g n = let one : y ≡ 1 = omega arith in ap (λ (y : ℕ). x + y * step) one ∙ omega arith

    lower : (x y : ℕ) → y ≡ 0 → x + y * step ≡ x
    lower x y n = ap (λ (y : ℕ). x + y * step) n ∙ omega arith

    here : (x y : ℕ) → x < k + 1 → y < 2 → Dec (x ≡ k) → Dec (y ≡ 0) → at (set (set e k a) (step + k) b) (x + y * step) ≡ cross_at step s x y
    here x y h g (yes q) (yes d) =
        let w : x + y * step ≡ k = lower x y d ∙ q in
        ap (at (set (set e k a) (step + k) b)) w ∙ get_or-set_other (set e k a) (step + k) k b (pos 0) (λ q. omega arith)
        ∙ get_or-set_same e k a (pos 0) (omega (arith, p.long)) ∙ ea ∙ (λ i. cross_at step s (sym q i) (sym d i))
    here x y h g (yes q) (no d) =
        let one : 1 ≡ y = omega arith in
        let w : x + y * step ≡ step + k = place x y g d ∙ omega (arith, q) in
        ap (at (set (set e k a) (step + k) b)) w ∙ get_or-set_same (set e k a) (step + k) b (pos 0) (omega (arith, p.long, length-set e k a)) ∙ eb ∙ (λ i. cross_at step s (sym q i) (one i))
    here x y h g (no n) (yes d) =
        let w = lower x y d in
        get_or-set_other (set e k a) (step + k) (x + y * step) b (pos 0) (λ q. omega (arith, w)) ∙ get_or-set_other e k (x + y * step) a (pos 0) (λ q. n (omega (arith, w))) ∙ p.done x y (omega arith) g
    here x y h g (no n) (no d) =
        let w = place x y g d in
        get_or-set_other (set e k a) (step + k) (x + y * step) b (pos 0) (λ q. n (omega (arith, w))) ∙ get_or-set_other e k (x + y * step) a (pos 0) (λ q. omega (arith, w)) ∙ p.done x y (omega arith) g

-- the two sums of a column
module _ (step : ℕ) (s : List ℤ) (x : ℕ) (a b : ℤ) (p : a ≡ at s x) (q : b ≡ at s (step + x)) where
  even : a ≡ at s (x + 0 * step)
  even = p ∙ ap (at s) (omega arith)

  odd : b ≡ at s (x + 1 * step)
  odd = q ∙ ap (at s) (omega arith)

  pub sum-cross : rounded (pos 64 *ℤ a +ℤ pos 64 *ℤ b) ≡ cross_at step s x 0
  sum-cross = ap rounded ((λ i. pos 64 *ℤ even i +ℤ pos 64 *ℤ odd i) ∙ sym (first-sum (λ i. at s (x + i * step))))

  pub difference-cross : rounded (pos 64 *ℤ a +ℤ negsuc 63 *ℤ b) ≡ cross_at step s x 1
  difference-cross = ap rounded ((λ i. pos 64 *ℤ even i +ℤ negsuc 63 *ℤ odd i) ∙ sym (second-sum (λ i. at s (x + i * step))))

pub cross-to : {k : ℕ} {s e : List ℤ} (step : ℕ) → k ≡ step → Crossed step k s e → Crossed step step s e
cross-to {k} {s} {e} step q p = subst (λ (k : ℕ). Crossed step k s e) q p
