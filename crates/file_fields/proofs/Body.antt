-- Data fits the shape that holds, and where a field that was read ends. Assumes nothing.
use mathlib.Core.Path.{◌≡◌, refl, ap, ◌∙◌}
use mathlib.Core.Bool.{true, false≢true}
use mathlib.Core.List.{List}
use Prim.Native.Nat.{ℕ, ◌+◌, ◌*◌, ◌/◌, ◌≤◌, ◌<◌}
use native.Mathlib.Omega.{arith}
use lib.ListN.{length, take, drop, length-take, length-drop}
use Rattle.meaning.specs.declared.Shape.{Shape}
use Rattle.file_fields.specs.declared.cursor.Cursor.{Cursor}
use Rattle.file_fields.specs.Field.{Field, is_data, length_at, whole_field}
use Rattle.file_fields.specs.Cursor.{found_at, bytes_of}
use Rattle.file_fields.specs.Body.{Fits}
use Rattle.file_fields.proofs.Shapes.{shape-range}
use Rattle.file_fields.proofs.Whole.{Whole, data-held}
use Rattle.file_fields.proofs.Found.{found-cases}

-- the bytes of a body, wherever it lies
pub bytes : {x y : ℕ × ℕ} {l m : List ℕ} → ◌≡◌ {A = (ℕ × ℕ) × List ℕ} (x, l) (y, m) → l ≡ m
bytes e = ap (λ (z : (ℕ × ℕ) × List ℕ). z.1) e

-- a field that was read, and where the next one stands
pub record Read (file : List ℕ) (c : Cursor) (f : Field) : Type 0 where
  pub place : f.next.at ≡ c.at + 3 + length (take f.bytes (drop f.start file))
  pub inside : f.next.at ≤ 65536

module _ (file : List ℕ) (c : Cursor) where
  body-long : c.at + 3 + length_at file c.at ≤ length file → length (take (length_at file c.at) (drop (c.at + 3) file)) ≡ length_at file c.at
  body-long h = simp (length-take, length-drop) (omega (arith, h))

  read-field : Whole file c.at c.shape → length file ≤ 65536 → Read file c (whole_field file c.at c.shape)
  read-field w l = record { place = omega (arith, body-long w.body); inside = omega (arith, w.body) }

  -- a field is at least its header
  pub read-on : ((found_at file c).tag ≡ 0 → ⊥) → (c.at < (found_at file c).next.at) × ((found_at file c).next.at ≤ 65536)
  read-on =
      found-cases file c (λ f. (f.tag ≡ 0 → ⊥) → (c.at < f.next.at) × (f.next.at ≤ 65536))
      (λ n h e. absurd (e refl))
      (λ h l w e. (omega arith, omega (arith, w.body)))

  -- data fits the shape that holds
  pub read-data : (found_at file c).number ≡ 0 → is_data (found_at file c).tag ≡ true → Fits c.shape (bytes_of file c) × Read file c (found_at file c)
  read-data =
      found-cases file c (λ f. f.number ≡ 0 → is_data f.tag ≡ true → Fits c.shape (take f.bytes (drop f.start file)) × Read file c f)
      (λ n h z e. absurd (false≢true e))
      (λ h l w z e. (record { held = data-held file c.at c.shape w e; long = body-long w.body ∙ w.numbers e }, read-field w l))

  data-read : is_data (found_at file c).tag ≡ true → (found_at file c).number ≡ 0
  data-read = found-cases file c (λ f. is_data f.tag ≡ true → f.number ≡ 0) (λ n z e. absurd (false≢true e)) (λ h l w e. refl)

  pub data-fits : is_data (found_at file c).tag ≡ true → Fits c.shape (bytes_of file c)
  data-fits e = (read-data (data-read e) e).0

-- ---- half of a body's bytes is the count of the block's numbers
pub half : (sh : Shape) (body : List ℕ) → Fits sh body → length body / 2 ≡ sh.width * sh.height
half sh body f = omega (arith, f.long)

pub half-most : (sh : Shape) (body : List ℕ) → Fits sh body → length body / 2 ≤ 1024
half-most sh body f = omega (arith, f.long, (shape-range sh f.held).1)
