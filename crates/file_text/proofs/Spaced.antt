-- One number more on a line. Assumes nothing.
use mathlib.Core.Path.{◌≡◌, refl, sym, ap, ◌∙◌}
use mathlib.Core.List.{List, [], ◌∷◌, ◌++◌, append_assoc, append-nil}
use Prim.Native.Nat.{ℕ, ◌+◌, ◌*◌, ◌<◌}
use native.Mathlib.Numerals.{add-one}
use native.Mathlib.Omega.{arith}
use lib.IntN.{ℤ, pos, nat_abs}
use lib.ListN.{length, take, get_or}
use lib.Seq.{take-suc}
use Rattle.file_text.specs.Wrote.{Wrote}
use Rattle.file_text.specs.Text.{decimal, sign, integer, spaced}
use Rattle.file_text.proofs.Writing.{and_then, retext, within}

pub spaced-append : (a b : List ℤ) → spaced (a ++ b) ≡ spaced a ++ spaced b
spaced-append [] b = refl
spaced-append (z ∷ a) b = rw (spaced-append a b) (ap (λ (t : List ℕ). 32 ∷ t) (sym (append_assoc (integer z) (spaced a) (spaced b))))

pub spaced-more : (zs : List ℤ) (i : ℕ) (d : ℤ) → i < length zs → spaced (take i zs) ++ spaced (get_or zs i d ∷ []) ≡ spaced (take (i + 1) zs)
spaced-more zs i d h = rw (add-one i, take-suc zs i d h) (sym (spaced-append (take i zs) (get_or zs i d ∷ [])))

-- numbers, then numbers, then any text
pub spaced-then : (a b : List ℤ) (t : List ℕ) → spaced a ++ (spaced b ++ t) ≡ spaced (a ++ b) ++ t
spaced-then a b t = sym (append_assoc (spaced a) (spaced b) t) ∙ ap (λ (s : List ℕ). s ++ t) (sym (spaced-append a b))

-- one number alone
pub spaced-one : (z : ℤ) → 32 ∷ integer z ≡ spaced (z ∷ [])
spaced-one z = ap (λ (t : List ℕ). 32 ∷ t) (sym (append-nil (integer z)))

-- its sign, then its size
pub spaced-signed : (z : ℤ) (s : List ℕ) → sign z ≡ s → 32 ∷ (s ++ decimal (nat_abs z)) ≡ spaced (z ∷ [])
spaced-signed z s e = ap (λ (t : List ℕ). 32 ∷ (t ++ decimal (nat_abs z))) (sym e) ∙ spaced-one z

-- ---- a loop that writes a list of numbers, twelve bytes for each at most
module _ (zs : List ℤ) (i : ℕ) where
  pub wrote-more : {z : ℤ} {at p r : ℕ} {o o₁ o₂ : List ℕ} → i < length zs → z ≡ get_or zs i (pos 0)
      → Wrote (spaced (take i zs)) (12 * i) at o o₁ p → Wrote (spaced (z ∷ [])) 12 p o₁ o₂ r → Wrote (spaced (take (i + 1) zs)) (12 * (i + 1)) at o o₂ r
  wrote-more h e a b =
      within (retext (ap (λ (z : ℤ). spaced (take i zs) ++ spaced (z ∷ [])) e ∙ spaced-more zs i (pos 0) h) (and_then a b)) (omega arith)
