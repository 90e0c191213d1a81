-- "Writing and reading give the block again": of the file (`round_trip`), and of the two calls (`written_back`). Assumes nothing.
use mathlib.Core.Path.{◌≡◌, refl, ap, ◌∙◌}
use mathlib.Core.Bool.{true, false}
use mathlib.Core.List.{List}
use Prim.Native.Nat.{ℕ, ◌*◌}
use native.Mathlib.Omega.{arith}
use borrow.Author.Tests.{eq-eqb, eqb-true, not-false}
use lib.Dec.{eqb}
use lib.IntN.{ℤ}
use lib.ListN.{length, take, drop}
use lib.Seq.{take-append_seam, drop-append_seam}
use Rattle.algebra.specs.Lists.{over}
use Rattle.algebra.proofs.Refusals.{clear, none-applies}
use Rattle.meaning.specs.Shape.{is_size}
use Rattle.picture_header.specs.Header.{is_picture}
use Rattle.picture_samples.specs.Samples.{any_beyond, samples}
use Rattle.picture_samples.proofs.Samples.{samples-back, samples-length}
use Rattle.picture.specs.declared.write.Written.{Written}
use Rattle.picture.specs.declared.read.Picture.{Picture}
use Rattle.picture.specs.Picture.{header_text, picture_of}
use Rattle.picture.specs.Outcomes.{write_tests, write_outcome, read_outcome}
use Rattle.picture.proofs.Headers.{header-back}

pub round_trip : (w h : ℕ) (zs out : List ℤ) → is_size w ≡ true → is_size h ≡ true → length zs ≡ w * h → any_beyond zs ≡ false → length out ≡ w * h
    → ◌≡◌ {A = Picture × List ℤ} (read_outcome (picture_of w h zs) out) (record { number = 0; width = w; height = h }, zs)
unfolding picture_of is_picture
round_trip w h zs out p q l r o =
    let e = header-back w p h q (samples zs) in
    let n : length (samples zs) ≡ 2 * (w * h) = omega (arith, samples-length zs) in
    rw (e, p, q, drop-append_seam (header_text w h) (samples zs), eq-eqb _ _ n, eq-eqb _ _ o, samples-back zs r)

-- what a call of number 0 left in the first `bytes` bytes of its output gives the block again, in any output of its length
module _ (w h : ℕ) (zs : List ℤ) (file : List ℕ) where
  abbrev refuse : ℕ → ℕ → Written × List ℕ
  refuse number place = (record { number = number; bytes = 0 }, file)

  abbrev wrote : Written × List ℕ
  wrote = (record { number = 0; bytes = length (picture_of w h zs) }, over (picture_of w h zs) file)

  pub written_back : (write_outcome w h zs file).0.number ≡ 0 → (out : List ℤ) → length out ≡ w * h
      → ◌≡◌ {A = Picture × List ℤ} (read_outcome (take (write_outcome w h zs file).0.bytes (write_outcome w h zs file).1) out) (record { number = 0; width = w; height = h }, zs)
  written_back e out o =
      let ts = write_tests w h zs (length file) in
      let c = clear (λ (r : Written × List ℕ). r.0.number) refuse wrote (λ n place. refl) ts tt e in
      ap (λ (r : Written × List ℕ). read_outcome (take r.0.bytes r.1) out) (none-applies refuse wrote ts c)
      ∙ ap (λ (l : List ℕ). read_outcome l out) (take-append_seam (picture_of w h zs) (drop (length (picture_of w h zs)) file))
      ∙ round_trip w h zs out (not-false (is_size w) c.0) (not-false (is_size h) c.1.0) (eqb-true (length zs) (w * h) (not-false (eqb (length zs) (w * h)) c.1.1.0)) c.1.1.1.0 o
