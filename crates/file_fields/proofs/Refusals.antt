-- What a refusal that is handed back says of the number of the tests. Assumes nothing.
use mathlib.Core.Path.{◌≡◌, refl, sym}
use mathlib.Core.Bool.{Bool, true, false, cond, not}
use mathlib.Core.List.{List}
use Prim.Native.Nat.{ℕ, ◌+◌, ◌<◌, ◌≤◌}
use native.Mathlib.Omega.{arith}
use borrow.Author.Tests.{not-false, eq-eqb, ne_eqb, lt-ltb, le-ltb, eqb-true, eqb-false}
use lib.Dec.{eqb, ltb}
use lib.ListN.{length}
use Rattle.std.specs.Prelude.{Result, Ok, Err, is_err}
use Rattle.algebra.specs.Refusals.{number_of}
use Rattle.meaning.specs.declared.Shape.{Shape}
use Rattle.meaning.specs.declared.refusal.Refusal.{Refusal}
use Rattle.meaning.specs.Refusal.{refusal_number, number_in}
use Rattle.meaning.specs.Answer.{shape_tests}
use Rattle.file_fields.specs.Field.{is_none, byte_at, length_at, shape_number, header_number, field_number}
use Rattle.file_fields.proofs.Whole.{of_shape, in_order, header-five, header-two}
use Rattle.meaning.proofs.RefusalNumbers.{above}

-- of a held shape
pub held-number : (r : Result Unit Refusal) (sh : Shape) → number_in r ≡ number_of (shape_tests sh) → is_none sh ≡ is_err r
unfolding shape_number
held-number (Ok done) sh e = rw (eq-eqb (number_of (shape_tests sh)) 0 (sym e))
held-number (Err refusal) sh e = let p = above refusal in rw (ne_eqb (number_of (shape_tests sh)) 0 (λ z. omega (arith, e, z)))

-- a test that applies hides those behind it, and one that does not leaves them
pub hides : (b : Bool) (k m n : ℕ) → 0 < n → n ≡ cond b k 0 → n ≡ cond b k m
hides true k m n h e = e
hides false k m n h e = absurd (omega (arith, e))

pub leaves : (b : Bool) (k : ℕ) → 0 < k → 0 ≡ cond b k 0 → b ≡ false
leaves true k h e = absurd (omega (arith, e))
leaves false k h e = refl

pub is-held : (sh : Shape) → ◌≡◌ {A = ℕ} 0 (cond (is_none sh) 13 0) → shape_number sh ≡ 0
is-held sh e = eqb-true (shape_number sh) 0 (not-false (eqb (shape_number sh) 0) (leaves (is_none sh) 13 (omega arith) e))

-- ---- what the header decides, by the tag
module _ (tag bytes : ℕ) (shape : Shape) where
  pub of_one : tag ≡ 1 → ◌≡◌ {A = ℕ} (cond (eqb bytes 5) 0 12) (header_number tag bytes shape)
  unfolding header_number
  of_one h = rw h (go (eqb bytes 5))
    where
      go : (b : Bool) → ◌≡◌ {A = ℕ} (cond b 0 12) (cond (not b) 12 0)
      go true = refl
      go false = refl

  pub of_data : 2 ≤ tag → tag ≤ 3 → header_number 2 bytes shape ≡ header_number tag bytes shape
  unfolding header_number
  of_data h k = go (eqb tag 2) refl
    where
      go : (b : Bool) → eqb tag 2 ≡ b → header_number 2 bytes shape ≡ header_number tag bytes shape
      go true e = let t : tag ≡ 2 = eqb-true tag 2 e in rw t
      go false e = let n = eqb-false tag 2 e in let t : tag ≡ 3 = omega arith in rw t

  pub of_unknown : (tag ≡ 1 → ⊥) → (tag ≡ 2 → ⊥) → (tag ≡ 3 → ⊥) → (tag ≡ 4 → ⊥) → 11 ≡ header_number tag bytes shape
  unfolding header_number
  of_unknown a b c d = simp (ne_eqb tag 1 a, ne_eqb tag 2 b, ne_eqb tag 3 c, ne_eqb tag 4 d)

-- ---- what the tests come to, in the code's order, where the header is there
module _ (file : List ℕ) (at n : ℕ) (shape : Shape) (l : n ≡ length_at file at) (there : at + 3 ≤ length file) where
  abbrev decided : ℕ
  decided = header_number (byte_at file at) n shape

  ordered : field_number file at shape ≡ cond (eqb decided 0) (cond (ltb (length file) (at + 3 + n)) 10 (of_shape file at shape)) decided
  ordered = rw (l, in_order file at shape, le-ltb (length file) (at + 3) there)

  pub by-header : (refusal : Refusal) → refusal_number refusal ≡ decided → refusal_number refusal ≡ field_number file at shape
  by-header refusal e = let p = above refusal in rw (ordered, ne_eqb decided 0 (λ z. omega arith)) e

  pub by-body : 0 ≡ decided → length file < at + 3 + n → 10 ≡ field_number file at shape
  by-body e h = rw (ordered, eq-eqb decided 0 (sym e), lt-ltb (length file) (at + 3 + n) h)

  pub by-shape : 0 ≡ decided → at + 3 + n ≤ length file → field_number file at shape ≡ of_shape file at shape
  by-shape e h = rw (ordered, eq-eqb decided 0 (sym e), le-ltb (length file) (at + 3 + n) h)

  pub behind : 0 ≡ decided → at + 3 + n ≤ length file → (at < length file) × ((byte_at file at ≡ 1 → at + 8 ≤ length file) × (byte_at file at ≡ 4 → at + 5 ≤ length file))
  behind e h =
      (omega arith, (λ t. omega (arith, header-five (byte_at file at) n shape (sym e) t), λ t. omega (arith, header-two (byte_at file at) n shape (sym e) t)))
