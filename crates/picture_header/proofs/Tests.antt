-- What the tests of a header tell. Assumes nothing.
use mathlib.Core.Path.{◌≡◌, refl, sym, ◌∙◌}
use mathlib.Core.Bool.{Bool, true, false, not, ◌&&◌, false≢true, and-false}
use mathlib.Core.List.{List, [], ◌∷◌}
use Prim.Native.Nat.{ℕ, ◌≤◌, ◌<◌}
use native.Mathlib.Omega.{arith}
use borrow.Author.Tests.{ltb-true, leb-true}
use lib.Dec.{eqb, ltb, leb}
use lib.ListN.{length}
use Rattle.meaning.specs.Shape.{is_size}
use Rattle.meaning.proofs.Cases.{and_cases}
use Rattle.picture_header.specs.declared.Header.{Header}
use Rattle.picture_header.specs.Header.{is_digit, ended, is_p5, is_picture}

pub digit-range : (b : ℕ) → is_digit b ≡ true → (48 ≤ b) × (b ≤ 57)
digit-range b e =
    let t = and_cases (leb 48 b) (leb b 57) e in
    (leb-true 48 b t.0, leb-true b 57 t.1)

-- a header that has not ended, and whose part has, is not yet at the maximum value
pub not_yet : (s : Header) → ended s ≡ false → s.going ≡ false → s.part < 3
not_yet s e g = ltb-true s.part 3 (go (ltb s.part 3) s.going e g)
  where
    go : (a b : Bool) → not a && not b ≡ false → b ≡ false → a ≡ true
    go true b e g = refl
    go false true e g = absurd (false≢true (sym g))
    go false false e g = absurd (false≢true (sym e))

pub two_bytes : (file : List ℕ) → is_p5 file ≡ true → 2 ≤ length file
two_bytes [] e = absurd (false≢true e)
two_bytes (a ∷ []) e = absurd (false≢true (sym (and-false (eqb a 80)) ∙ e))
two_bytes (a ∷ b ∷ bs) e = omega arith

pub no_bytes : (file : List ℕ) → length file < 2 → is_p5 file ≡ false
no_bytes [] h = refl
no_bytes (a ∷ []) h = and-false (eqb a 80)
no_bytes (a ∷ b ∷ bs) h = absurd (omega arith)

-- the sides of a picture
pub sides : (s : Header) → is_picture s ≡ true → (is_size s.width ≡ true) × (is_size s.height ≡ true)
unfolding is_picture
sides s e =
    let a = and_cases (eqb s.part 3) (not s.going && (eqb s.maximum 65535 && (is_size s.width && is_size s.height))) e in
    let b = and_cases (not s.going) (eqb s.maximum 65535 && (is_size s.width && is_size s.height)) a.1 in
    let c = and_cases (eqb s.maximum 65535) (is_size s.width && is_size s.height) b.1 in
    and_cases (is_size s.width) (is_size s.height) c.1
