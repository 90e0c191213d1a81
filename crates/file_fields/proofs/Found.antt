-- What a cursor finds: nothing, or a whole field within a file that is not too long. Assumes nothing.
--   read-body, end_body: "0 for a field read and at the end, where the empty body tells the two apart"
--   body-within:         a body lies in the file
use mathlib.Core.Path.{◌≡◌, refl}
use mathlib.Core.Bool.{Bool, true, false, cond, not}
use mathlib.Core.List.{List}
use Prim.Native.Nat.{ℕ, ◌+◌, ◌≤◌, ◌<◌}
use native.Mathlib.Omega.{arith}
use borrow.Author.Tests.{ltb-true, ltb-false, eqb-true, eqb-false, not-true, not-false}
use lib.Dec.{eqb, ltb}
use lib.ListN.{length}
use Rattle.file_fields.specs.declared.cursor.Cursor.{Cursor}
use Rattle.file_fields.specs.Field.{Field, field_number, field_at, nothing, whole_field}
use Rattle.file_fields.specs.Cursor.{found_at, too_long, advance_of, body_start, body_length}
use Rattle.file_fields.proofs.Whole.{Whole, whole-field, some-body}

pick : (P : Field → Type 0) (b : Bool) (f g : Field) → (b ≡ true → P f) → (b ≡ false → P g) → P (cond b f g)
pick P true f g p q = p refl
pick P false f g p q = q refl

module _ (file : List ℕ) (c : Cursor) where
  -- number 0 where there is nothing says that the place is at the end or past it
  pub found-cases : (P : Field → Type 0)
      → ((n : ℕ) → (n ≡ 0 → length file ≤ c.at) → P (nothing n c.at c.shape))
      → (c.at < length file → length file ≤ 65536 → Whole file c.at c.shape → P (whole_field file c.at c.shape))
      → P (found_at file c)
  unfolding found_at field_at
  found-cases P none some =
      let n = field_number file c.at c.shape in
      let l = ltb c.at (length file) in
      pick P (too_long file) (nothing 14 c.at c.shape) _ (λ p. none 14 (λ e. absurd (omega arith)))
      (λ p. pick P (not l) (nothing 0 c.at c.shape) _ (λ q. none 0 (λ e. ltb-false c.at (length file) (not-true l q)))
      (λ q. pick P (eqb n 0) (whole_field file c.at c.shape) (nothing n c.at c.shape)
      (λ r. some (ltb-true c.at (length file) (not-false l q)) (ltb-false 65536 (length file) p) (whole-field file c.at c.shape (eqb-true n 0 r)))
      (λ r. none n (λ e. absurd (eqb-false n 0 r e)))))

  pub body-within : body_start file c + body_length file c ≤ length file
  body-within = found-cases (λ f. f.start + f.bytes ≤ length file) (λ n h. omega arith) (λ h l w. w.body)

  pub read-body : c.at < length file → (advance_of file c).number ≡ 0 → 0 < body_length file c
  read-body h =
      found-cases (λ f. f.number ≡ 0 → 0 < f.bytes) (λ n e z. absurd (omega (arith, e z)))
      (λ h l w z. some-body file c.at c.shape w)

  pub end_body : length file ≤ c.at → body_length file c ≡ 0
  end_body h = found-cases (λ f. f.bytes ≡ 0) (λ n e. refl) (λ g l w. absurd (omega arith))
