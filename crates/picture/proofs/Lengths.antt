-- How long a picture is, and what the output holds once it is written. Assumes nothing.
use mathlib.Core.Path.{◌≡◌, sym, ap, ◌∙◌}
use mathlib.Core.Bool.{true}
use mathlib.Core.List.{List, ◌++◌}
use Prim.Native.Nat.{ℕ, ◌+◌, ◌*◌, ◌≤◌}
use native.Mathlib.Nat.{mul-le-mul}
use native.Mathlib.Omega.{arith}
use lib.IntN.{ℤ}
use lib.ListN.{length, drop, length-append, take-append-drop}
use Rattle.meaning.specs.Shape.{is_size}
use Rattle.meaning.proofs.Cases.{size_in, size-some}
use Rattle.file_text.specs.Text.{digits, decimal}
use Rattle.file_text.specs.Wrote.{Wrote}
use Rattle.picture_samples.specs.Samples.{samples}
use Rattle.picture_samples.proofs.Samples.{samples-length}
use Rattle.picture.specs.Picture.{header_text, picture_of}

pub elements : (w h : ℕ) → is_size w ≡ true → is_size h ≡ true → (16 ≤ w * h) × (w * h ≤ 1024)
elements w h p q = (mul-le-mul (size-some w p) (size-some h q), mul-le-mul (size_in w p) (size_in h q))

pub header-length : (w h : ℕ) → length (header_text w h) ≡ length (decimal w) + length (decimal h) + 11
unfolding digits decimal header_text
header-length w h = simp length-append (omega arith)

pub picture-parts : (w h : ℕ) (zs : List ℤ) → length (picture_of w h zs) ≡ length (header_text w h) + 2 * length zs
unfolding picture_of
picture-parts w h zs = length-append (header_text w h) (samples zs) ∙ omega (arith, samples-length zs)

-- a text at the start: its length, and all that the output holds then
pub at-start : {t : List ℕ} {m r : ℕ} {o o₁ : List ℕ} → Wrote t m 0 o o₁ r → (r ≡ length t) × (o₁ ≡ t ++ drop (length t) o)
at-start {t} {m} {r} {o} {o₁} a =
    let e : r ≡ length t = omega (arith, a.next) in
    (e, sym (take-append-drop r o₁) ∙ ap (λ (l : List ℕ). l ++ drop r o₁) a.front ∙ ap (λ (l : List ℕ). t ++ l) (a.beyond ∙ ap (λ (k : ℕ). drop k o) e))
