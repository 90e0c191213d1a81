-- The samples of residuals in range: they give the residuals again, and a loop writes them one by one. Assumes nothing.
use mathlib.Core.Path.{◌≡◌, refl, sym, ap, ◌∙◌}
use mathlib.Core.Bool.{Bool, true, false, cond, ◌||◌}
use mathlib.Core.List.{List, [], ◌∷◌, ◌++◌}
use Prim.Native.Nat.{ℕ, zero, suc, ◌+◌, ◌*◌, ◌<◌}
use native.Mathlib.Numerals.{add-one}
use native.Mathlib.Omega.{arith}
use lib.IntN.{ℤ, pos}
use lib.ListN.{length, take, drop, get_or}
use lib.Seq.{take-suc, take-length, drop-cons}
use Rattle.meaning.specs.Plan.{short_range}
use Rattle.meaning.specs.Long.{beyond}
use Rattle.meaning.proofs.Cases.{neither}
use Rattle.file_text.specs.Wrote.{Wrote}
use Rattle.file_text.proofs.Writing.{and_then, retext, within}
use Rattle.picture_samples.specs.Samples.{any_beyond, samples, residuals}
use Rattle.picture_samples.proofs.SampleSizes.{sample-back}

pub samples-back : (zs : List ℤ) → any_beyond zs ≡ false → residuals (samples zs) ≡ zs
unfolding samples any_beyond
samples-back [] e = refl
samples-back (z ∷ zs) e = let n = neither (beyond short_range z) (any_beyond zs) e in λ i. sample-back z n.0 i ∷ samples-back zs n.1 i

pub samples-length : (zs : List ℤ) → length (samples zs) ≡ 2 * length zs
unfolding samples
samples-length [] = refl
samples-length (z ∷ zs) = omega (arith, samples-length zs)

-- ---- one residual more
pub beyond-at : (zs : List ℤ) (i : ℕ) → any_beyond zs ≡ false → i < length zs → beyond short_range (get_or zs i (pos 0)) ≡ false
unfolding any_beyond
beyond-at [] i e h = absurd (omega arith)
beyond-at (z ∷ zs) zero e h = (neither (beyond short_range z) (any_beyond zs) e).0
beyond-at (z ∷ zs) (suc i) e h = beyond-at zs i (neither (beyond short_range z) (any_beyond zs) e).1 (omega arith)

pub any-beyond : (zs : List ℤ) (i : ℕ) (b : Bool) → i < length zs → beyond short_range (get_or zs i (pos 0)) ≡ b → any_beyond (drop i zs) ≡ cond b true (any_beyond (drop (i + 1) zs))
unfolding any_beyond
any-beyond zs i b h e = rw (drop-cons zs i (pos 0) h, add-one i, e) (both b)
  where
    both : (b : Bool) → (b || any_beyond (drop (suc i) zs)) ≡ cond b true (any_beyond (drop (suc i) zs))
    both true = refl
    both false = refl

samples-append : (a b : List ℤ) → samples (a ++ b) ≡ samples a ++ samples b
unfolding samples
samples-append [] b = refl
samples-append (z ∷ a) b = rw (samples-append a b)

samples-more : (zs : List ℤ) (i : ℕ) → i < length zs → samples (take i zs) ++ samples (get_or zs i (pos 0) ∷ []) ≡ samples (take (i + 1) zs)
samples-more zs i h = rw (add-one i, take-suc zs i (pos 0) h) (sym (samples-append (take i zs) (get_or zs i (pos 0) ∷ [])))

module _ (zs : List ℤ) (i : ℕ) where
  pub wrote-more : {z : ℤ} {at p r : ℕ} {o o₁ o₂ : List ℕ} → i < length zs → z ≡ get_or zs i (pos 0)
      → Wrote (samples (take i zs)) (2 * i) at o o₁ p → Wrote (samples (z ∷ [])) 2 p o₁ o₂ r → Wrote (samples (take (i + 1) zs)) (2 * (i + 1)) at o o₂ r
  wrote-more h e a b =
      within (retext (ap (λ (z : ℤ). samples (take i zs) ++ samples (z ∷ [])) e ∙ samples-more zs i h) (and_then a b)) (omega arith)

  pub wrote-all : {at p : ℕ} {o o₁ : List ℕ} → i ≡ length zs → Wrote (samples (take i zs)) (2 * i) at o o₁ p → Wrote (samples zs) (2 * length zs) at o o₁ p
  wrote-all e a = within (retext (ap samples (ap (λ (k : ℕ). take k zs) e ∙ take-length zs)) a) (omega arith)
