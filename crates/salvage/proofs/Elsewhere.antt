-- What the reader makes of a field does not depend on where its bytes stand. Assumes nothing.
use mathlib.Core.Path.{◌≡◌, refl, sym, ap, ◌∙◌}
use mathlib.Core.Bool.{Bool, true, false, cond}
use mathlib.Core.List.{List}
use Prim.Native.Nat.{ℕ, ◌+◌, ◌*◌, ◌-◌, ◌≤◌, ◌<◌}
use native.Mathlib.Omega.{arith}
use borrow.Author.Tests.{eqb-true, eqb-false, le-ltb, lt-ltb}
use lib.Dec.{eqb, ltb}
use lib.ListN.{length}
use Rattle.meaning.specs.declared.Shape.{Shape}
use Rattle.meaning.specs.Shape.{shape_of, keeping}
use Rattle.file_fields.specs.declared.cursor.Cursor.{Cursor}
use Rattle.file_fields.specs.Field.{Field, byte_at, length_at, body_at, shape_at, shape_behind, shape_number, is_shape, is_keeping, header_number, field_number, field_at, whole_field, nothing}
use Rattle.file_fields.specs.Cursor.{advance_of, found_at}
use Rattle.file_fields.proofs.Whole.{Whole, whole-field, in_order, of_header, of_shape}
use Rattle.salvage.specs.Pieces.{reads}

-- n bytes stand at place k of g as at place `at` of f
abbrev pub Same : List ℕ → ℕ → List ℕ → ℕ → ℕ → Type 0
Same f at g k n = (i : ℕ) → i < n → byte_at g (k + i) ≡ byte_at f (at + i)

-- the tests of a field, in their order
parts : (a : Bool) (x : ℕ) (b : Bool) (y : ℕ) → cond a 10 (cond (eqb x 0) (cond b 10 y) x) ≡ 0 → (x ≡ 0) × (y ≡ 0)
parts true x b y e = absurd (omega arith)
parts false x b y e = go (eqb x 0) refl b e
  where
    go : (t : Bool) → eqb x 0 ≡ t → (b : Bool) → cond t (cond b 10 y) x ≡ 0 → (x ≡ 0) × (y ≡ 0)
    go true q true e = absurd (omega arith)
    go true q false e = (eqb-true x 0 q, e)
    go false q b e = absurd (eqb-false x 0 q e)

back : (a : Bool) (x : ℕ) (b : Bool) (y : ℕ) → a ≡ false → x ≡ 0 → b ≡ false → y ≡ 0 → cond a 10 (cond (eqb x 0) (cond b 10 y) x) ≡ 0
back a x b y p q r s = rw (p, q, r, s)

either : (a b : Bool) (S S' K K' R : Shape) → (a ≡ true → S ≡ S') → (b ≡ true → K ≡ K') → cond a S (cond b K R) ≡ cond a S' (cond b K' R)
either true b S S' K K' R p q = p refl
either false true S S' K K' R p q = q refl
either false false S S' K K' R p q = refl

module _ (f : List ℕ) (at : ℕ) (g : List ℕ) (k : ℕ) (sh : Shape) (z : field_number f at sh ≡ 0) (s : Same f at g k (3 + length_at f at)) (h : k + (3 + length_at f at) ≤ length g) where
  abbrev whole-there : Whole f at sh
  whole-there = whole-field f at sh z

  tag_same : byte_at g k ≡ byte_at f at
  tag_same =
      let p : k + 0 ≡ k = omega arith in
      let q : at + 0 ≡ at = omega arith in
      ap (byte_at g) (sym p) ∙ s 0 (omega arith) ∙ ap (byte_at f) q

  pub length-same : length_at g k ≡ length_at f at
  length-same = λ i. s 1 (omega arith) i * 256 + s 2 (omega arith) i

  -- a byte of the body
  in_body : (j : ℕ) → j < length_at f at → byte_at g (k + 3 + j) ≡ byte_at f (at + 3 + j)
  in_body j b =
      let p : k + 3 + j ≡ k + (3 + j) = omega arith in
      let q : at + 3 + j ≡ at + (3 + j) = omega arith in
      ap (byte_at g) p ∙ s (3 + j) (omega arith) ∙ ap (byte_at f) (sym q)

  shape_same : 5 ≤ length_at f at → shape_at g (body_at k) ≡ shape_at f (body_at at)
  shape_same m = λ i. shape_of (s 3 (omega arith) i) (in_body 1 (omega arith) i) (in_body 2 (omega arith) i) (in_body 3 (omega arith) i) (in_body 4 (omega arith) i)

  keeping-same : 2 ≤ length_at f at → keeping sh (byte_at g (body_at k)) (byte_at g (body_at k + 1)) ≡ keeping sh (byte_at f (body_at at)) (byte_at f (body_at at + 1))
  keeping-same m = λ i. keeping sh (s 3 (omega arith) i) (in_body 1 (omega arith) i)

  pub behind-same : shape_behind g k sh ≡ shape_behind f at sh
  behind-same =
      let t = byte_at f at in
      let w = whole-there in
      ap (λ (t : ℕ). cond (is_shape t) (shape_at g (body_at k)) (cond (is_keeping t) (keeping sh (byte_at g (body_at k)) (byte_at g (body_at k + 1))) sh)) tag_same
      ∙ either (is_shape t) (is_keeping t) (shape_at g (body_at k)) (shape_at f (body_at at)) (keeping sh (byte_at g (body_at k)) (byte_at g (body_at k + 1))) (keeping sh (byte_at f (body_at at)) (byte_at f (body_at at + 1))) sh
      (λ b. shape_same (omega (arith, w.five (eqb-true t 1 b)))) (λ b. keeping-same (omega (arith, w.two (eqb-true t 4 b))))

  pub number_same : field_number g k sh ≡ 0
  number_same =
      let n = length_at f at in
      let p = parts (ltb (length f) (at + 3)) (of_header f at sh) (ltb (length f) (at + 3 + n)) (of_shape f at sh) (sym (in_order f at sh) ∙ z) in
      in_order g k sh ∙ back (ltb (length g) (k + 3)) (of_header g k sh) (ltb (length g) (k + 3 + length_at g k)) (of_shape g k sh)
      (le-ltb (length g) (k + 3) (omega arith)) ((λ i. header_number (tag_same i) (length-same i) sh) ∙ p.0)
      (le-ltb (length g) (k + 3 + length_at g k) (omega (arith, length-same))) (ap shape_number behind-same ∙ p.1)

-- ---- a cursor within a file that is not too long
module _ (file : List ℕ) (c : Cursor) (a : length file ≤ 65536) (b : c.at < length file) where
  found-whole : field_number file c.at c.shape ≡ 0 → found_at file c ≡ whole_field file c.at c.shape
  unfolding found_at field_at
  found-whole z = rw (le-ltb 65536 (length file) a, lt-ltb c.at (length file) b, z)

  found-zero : reads file c ≡ true → field_number file c.at c.shape ≡ 0
  unfolding found_at field_at
  found-zero r =
      let n = field_number file c.at c.shape in
      let q : found_at file c ≡ cond (eqb n 0) (whole_field file c.at c.shape) (nothing n c.at c.shape) = rw (le-ltb 65536 (length file) a, lt-ltb c.at (length file) b) in
      go n (eqb n 0) refl (sym (ap (λ (f : Field). eqb f.number 0) q) ∙ r)
    where
      go : (n : ℕ) (t : Bool) → eqb n 0 ≡ t → eqb (cond t (whole_field file c.at c.shape) (nothing n c.at c.shape)).number 0 ≡ true → n ≡ 0
      go n true e h = eqb-true n 0 e
      go n false e h = eqb-true n 0 h

-- the reader reads at place k of g what it reads at a cursor of file
pub reads-there : (file : List ℕ) (c : Cursor) (g : List ℕ) (k : ℕ) → length file ≤ 65536 → c.at < length file → reads file c ≡ true → length g ≤ 65536
    → k + ((advance_of file c).next.at - c.at) ≤ length g → Same file c.at g k ((advance_of file c).next.at - c.at)
    → (reads g (record { at = k; shape = c.shape }) ≡ true)
    × ((advance_of g (record { at = k; shape = c.shape })).next ≡ record { at = k + ((advance_of file c).next.at - c.at); shape = (advance_of file c).next.shape })
reads-there file c g k a b r d h s =
    let z = found-zero file c a b r in
    let w = found-whole file c a b z in
    let l = length_at file c.at in
    let n : (advance_of file c).next.at - c.at ≡ 3 + l = ap (λ (f : Field). f.next.at - c.at) w ∙ omega arith in
    let s' : Same file c.at g k (3 + l) = λ i q. s i (omega arith) in
    let h' : k + (3 + l) ≤ length g = omega arith in
    let w' = found-whole g (record { at = k; shape = c.shape }) d (omega arith) (number_same file c.at g k c.shape z s' h') in
    let e : k + 3 + length_at g k ≡ k + ((advance_of file c).next.at - c.at) = omega (arith, length-same file c.at g k c.shape z s' h') in
    let t : shape_behind g k c.shape ≡ (advance_of file c).next.shape = behind-same file c.at g k c.shape z s' h' ∙ sym (ap (λ (f : Field). f.next.shape) w) in
    (ap (λ (f : Field). eqb f.number 0) w', ap (λ (f : Field). f.next) w' ∙ (λ i. record { at = e i; shape = t i }))

-- at the end the reader stays
pub end_stays : (g : List ℕ) (c : Cursor) → length g ≤ 65536 → length g ≤ c.at → found_at g c ≡ nothing 0 c.at c.shape
unfolding found_at field_at
end_stays g c a b = rw (le-ltb 65536 (length g) a, le-ltb c.at (length g) b)
