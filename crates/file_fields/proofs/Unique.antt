-- What each public contract allows is one outcome: for any cursor and any bytes, two results that it allows are equal.
-- Assumes nothing.
use mathlib.Core.Path.{◌≡◌}
use mathlib.Core.Bool.{Bool}
use mathlib.Core.List.{List}
use Prim.Native.Nat.{ℕ}
use Rattle.algebra.proofs.Unique.{one}
use Rattle.file_fields.specs.declared.cursor.Cursor.{Cursor}
use Rattle.file_fields.specs.declared.cursor.Advance.{Advance}
use Rattle.file_fields.specs.Field.{is_data}
use Rattle.file_fields.specs.Cursor.{file_start, advance_of, body_of}

-- `Cursor::new`
pub one-new : {x y : Cursor} → x ≡ file_start → y ≡ file_start → x ≡ y
one-new p q = one p q

-- `advance`: the number, the tag, the next place and the shape
pub one-advance : (file : List ℕ) (cursor : Cursor) {x y : Advance} → x ≡ advance_of file cursor → y ≡ advance_of file cursor → x ≡ y
one-advance file cursor p q = one p q

-- `body`: where it lies, and its bytes
pub one-body : (place : ℕ × ℕ) (file : List ℕ) (cursor : Cursor) {x y : (ℕ × ℕ) × List ℕ} → x ≡ body_of place file cursor → y ≡ body_of place file cursor → x ≡ y
one-body place file cursor p q = one p q

-- `is_data`
pub one-data : (tag : ℕ) {x y : Bool} → x ≡ is_data tag → y ≡ is_data tag → x ≡ y
one-data tag p q = one p q
