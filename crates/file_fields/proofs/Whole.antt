-- What a field that is not refused says of the file, and its tests in the code's order. Assumes nothing.
use mathlib.Core.Path.{◌≡◌, refl, sym, ap, ◌∙◌}
use mathlib.Core.Bool.{Bool, true, false, cond, not, ◌||◌}
use mathlib.Core.List.{List, [], ◌∷◌}
use Prim.Native.Nat.{ℕ, zero, suc, ◌+◌, ◌*◌, ◌≤◌, ◌<◌}
use native.Mathlib.Omega.{arith}
use borrow.Author.Tests.{ltb-false, eqb-true, not-false, eq-eqb, ne_eqb}
use lib.Dec.{eqb, ltb}
use lib.ListN.{length}
use Rattle.algebra.specs.Refusals.{Test, number_of}
use Rattle.meaning.specs.declared.Shape.{Shape}
use Rattle.meaning.specs.Answer.{test}
use Rattle.meaning.proofs.Cases.{or_cases, and_so}
use Rattle.file_fields.specs.Field.{byte_at, length_at, shape_number, is_none, is_data, is_keeping, shape_behind, header_tests, header_number, field_number}
use Rattle.file_fields.proofs.Shapes.{shape-range}
use Rattle.file_fields.proofs.Tests.{Passed, number_append, passed, or-zero}

-- the header and the body lie in the file; a body of tag 01 has five bytes, one of tag 04 two; the latter and data follow a shape,
-- and data has two bytes for each number of its block; the shape behind the field is not refused
pub record Whole (file : List ℕ) (at : ℕ) (shape : Shape) : Type 0 where
  pub header : at + 3 ≤ length file
  pub body : at + 3 + length_at file at ≤ length file
  pub known : eqb (byte_at file at) 1 || (is_keeping (byte_at file at) || is_data (byte_at file at)) ≡ true
  pub five : byte_at file at ≡ 1 → length_at file at ≡ 5
  pub two : byte_at file at ≡ 4 → length_at file at ≡ 2
  pub held : is_keeping (byte_at file at) || is_data (byte_at file at) ≡ true → shape_number shape ≡ 0
  pub numbers : is_data (byte_at file at) ≡ true → length_at file at ≡ 2 * (shape.width * shape.height)
  pub behind : shape_number (shape_behind file at shape) ≡ 0

-- what three tests and a number come to
three : (a : Bool) (n : ℕ) (b : Bool) (k : ℕ) → cond a 10 (cond (eqb n 0) (cond b 10 k) n) ≡ 0 → (a ≡ false) × (n ≡ 0) × (b ≡ false) × (k ≡ 0)
three true n b k e = absurd (omega arith)
three false zero true k e = absurd (omega arith)
three false zero false k e = (refl, refl, refl, e)
three false (suc n) b k e = absurd (let z : suc n ≡ 0 = (rw (ne_eqb (suc n) 0 (λ p. omega arith)) at e) in omega arith)

-- the lengths in a header that is not refused
module _ (tag bytes : ℕ) (shape : Shape) (e : header_number tag bytes shape ≡ 0) where
  clear : Passed (header_tests tag bytes shape)
  unfolding header_number
  clear = passed (header_tests tag bytes shape) [] tt e

  pub header-five : tag ≡ 1 → bytes ≡ 5
  header-five t = eqb-true bytes 5 (not-false (eqb bytes 5) (and_so (eqb tag 1) (not (eqb bytes 5)) clear.1.0 (eq-eqb tag 1 t)))

  pub header-two : tag ≡ 4 → bytes ≡ 2
  header-two t = eqb-true bytes 2 (not-false (eqb bytes 2) (and_so (eqb tag 4) (not (eqb bytes 2)) clear.1.1.0 (eq-eqb tag 4 t)))

module _ (file : List ℕ) (at : ℕ) (shape : Shape) where
  abbrev header : Test
  header = test (ltb (length file) (at + 3)) 10

  abbrev by_header : List Test
  by_header = header_tests (byte_at file at) (length_at file at) shape

  abbrev body : Test
  body = test (ltb (length file) (at + 3 + length_at file at)) 10

  abbrev in_body : List Test
  in_body = test (is_none (shape_behind file at shape)) (shape_number (shape_behind file at shape)) ∷ []

  -- what the tests come to, of which those of the header are the first group, then the body's presence, then the shape behind
  abbrev pub of_header : ℕ
  of_header = header_number (byte_at file at) (length_at file at) shape

  abbrev pub of_shape : ℕ
  of_shape = shape_number (shape_behind file at shape)

  pub in_order : field_number file at shape ≡ cond (ltb (length file) (at + 3)) 10 (cond (eqb of_header 0) (cond (ltb (length file) (at + 3 + length_at file at)) 10 of_shape) of_header)
  unfolding field_number header_number
  in_order =
      ap (cond (ltb (length file) (at + 3)) 10)
      (number_append by_header (body ∷ in_body) tt
      ∙ ap (λ (n : ℕ). cond (eqb (number_of by_header) 0) (cond (ltb (length file) (at + 3 + length_at file at)) 10 n) (number_of by_header)) (or-zero of_shape))

  all-passed : field_number file at shape ≡ 0 → (ltb (length file) (at + 3) ≡ false) × (of_header ≡ 0) × (ltb (length file) (at + 3 + length_at file at) ≡ false) × (of_shape ≡ 0)
  all-passed e = three (ltb (length file) (at + 3)) of_header (ltb (length file) (at + 3 + length_at file at)) of_shape (sym in_order ∙ e)

  pub whole-field : field_number file at shape ≡ 0 → Whole file at shape
  whole-field e =
      let (present, none, whole, behind) = all-passed e in
      let n = length_at file at in
      let t = byte_at file at in
      let m = shape.width * shape.height in
      let p = clear t n shape none in
      record {
        header = ltb-false (length file) (at + 3) present;
        body = ltb-false (length file) (at + 3 + n) whole;
        known = not-false (eqb t 1 || (is_keeping t || is_data t)) p.0;
        five = header-five t n shape none;
        two = header-two t n shape none;
        held = λ h. eqb-true (shape_number shape) 0 (not-false (eqb (shape_number shape) 0) (and_so (is_keeping t || is_data t) (is_none shape) p.1.1.1.0 h));
        numbers = λ h. eqb-true n (2 * m) (not-false (eqb n (2 * m)) (and_so (is_data t) (not (eqb n (2 * m))) p.1.1.1.1.0 h));
        behind = behind;
      }

  -- data follows a shape
  pub data-held : Whole file at shape → is_data (byte_at file at) ≡ true → shape_number shape ≡ 0
  data-held w d = w.held (either (is_keeping (byte_at file at)))
    where
      either : (b : Bool) → b || is_data (byte_at file at) ≡ true
      either true = refl
      either false = d

  -- "the empty body tells the two apart": a field that is read has a body
  pub some-body : Whole file at shape → 0 < length_at file at
  some-body w =
      let t = byte_at file at in
      or_cases (eqb t 1) (is_keeping t || is_data t) w.known
      (λ p. omega (arith, w.five (eqb-true t 1 p)))
      (λ q. or_cases (is_keeping t) (is_data t) q
      (λ p. omega (arith, w.two (eqb-true t 4 p)))
      (λ p. omega (arith, w.numbers p, (shape-range shape (w.held q)).0)))
