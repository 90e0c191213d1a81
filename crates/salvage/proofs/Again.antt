-- What is written is an undamaged file: the reader reads it to its end. So saving it again changes nothing. Assumes nothing.
use mathlib.Core.Path.{◌≡◌, refl, sym, ap, ◌∙◌, subst}
use mathlib.Core.Bool.{Bool, true, false, cond, ◌&&◌}
use mathlib.Core.List.{List, [], ◌++◌, append_assoc, append-nil}
use Prim.Native.Nat.{ℕ, zero, suc, ◌+◌, ◌-◌, ◌≤◌, ◌<◌}
use native.Mathlib.Omega.{arith}
use lib.Dec.{eqb}
use lib.ListN.{length, take, drop, length-append, length-drop, get_or-append}
use lib.Seq.{length-take-le, get_or-append-add, get_or-take, get_or-drop}
use Rattle.meaning.specs.declared.Shape.{Shape}
use Rattle.file_fields.specs.declared.cursor.Cursor.{Cursor}
use Rattle.file_fields.specs.Field.{Field}
use Rattle.file_fields.specs.Cursor.{file_start, advance_of}
use Rattle.salvage.specs.Pieces.{reads, onward, pieces, joined, kept_of, written, dropped, reads_all, undamaged}
use Rattle.salvage.proofs.Moves.{onward-read, onward-lost}
use Rattle.salvage.proofs.Cover.{by-pieces}
use Rattle.salvage.proofs.Lengths.{written-short}
use Rattle.salvage.proofs.Undamaged.{undamaged-file}
use Rattle.salvage.proofs.Elsewhere.{Same, reads-there, end_stays}

abbrev cur : ℕ → Shape → Cursor
cur at shape = record { at = at; shape = shape }

at-end : (k : ℕ) (g : List ℕ) (c : Cursor) → length g ≤ 65536 → length g ≤ c.at → reads_all k g c ≡ true
unfolding reads_all
at-end zero g c a b = refl
at-end (suc k) g c a b = ap (λ (f : Field). eqb f.number 0 && reads_all k g f.next) (end_stays g c a b) ∙ at-end k g c a b

-- what follows D is read to its end, with the shape that holds
abbrev Reads : Shape → List ℕ → Type 0
Reads shape t = (D : List ℕ) → length (D ++ t) ≤ 65536 → (k : ℕ) → reads_all k (D ++ t) (cur (length D) shape) ≡ true

module _ (file : List ℕ) (a : length file ≤ 65536) where
  kept_again : (c : Cursor) (o : Cursor) (rest : List ℕ) → c.at < length file → c.at < o.at → o.at ≤ length file → reads file c ≡ true → (advance_of file c).next ≡ o
      → Reads o.shape rest → Reads c.shape (take (o.at - c.at) (drop c.at file) ++ rest)
  unfolding reads_all
  kept_again c o rest l m n r e h D d zero = refl
  kept_again c o rest l m n r e h D d (suc k) =
      let part = take (o.at - c.at) (drop c.at file) in
      let p : length part ≡ o.at - c.at = length-take-le (o.at - c.at) (drop c.at file) (omega (arith, length-drop c.at file)) in
      let g = D ++ (part ++ rest) in
      let room : length D + (o.at - c.at) ≤ length g = omega (arith, length-append D (part ++ rest), length-append part rest) in
      let s : Same file c.at g (length D) (o.at - c.at) = λ i q.
      get_or-append-add D (part ++ rest) i 0 ∙ get_or-append part rest 0 i (omega arith) ∙ get_or-take (o.at - c.at) (drop c.at file) i 0 q ∙ get_or-drop c.at file i 0 in
      let t = there o e g d room s in
      let q : length (D ++ part) ≡ length D + (o.at - c.at) = length-append D part ∙ ap (λ (x : ℕ). length D + x) p in
      let j = append_assoc D part rest in
      let x : reads_all k ((D ++ part) ++ rest) (cur (length (D ++ part)) o.shape) ≡ true = h (D ++ part) (subst (λ (y : List ℕ). length y ≤ 65536) (sym j) d) k in
      (λ i. t.0 i && reads_all k g (t.1 i)) ∙ sym (λ i. reads_all k (j i) (cur (q i) o.shape)) ∙ x
    where
      there : (o : Cursor) → (advance_of file c).next ≡ o → (g : List ℕ) → length g ≤ 65536 → length D + (o.at - c.at) ≤ length g → Same file c.at g (length D) (o.at - c.at)
          → (reads g (cur (length D) c.shape) ≡ true) × ((advance_of g (cur (length D) c.shape)).next ≡ cur (length D + (o.at - c.at)) o.shape)
      there o e g =
          subst (λ (o : Cursor). length g ≤ 65536 → length D + (o.at - c.at) ≤ length g → Same file c.at g (length D) (o.at - c.at)
          → (reads g (cur (length D) c.shape) ≡ true) × ((advance_of g (cur (length D) c.shape)).next ≡ cur (length D + (o.at - c.at)) o.shape))
          e (reads-there file c g (length D) a l r)

  pick : (Q : List ℕ → Type 0) (b : Bool) (x rest : List ℕ) → (b ≡ true → Q (x ++ rest)) → (b ≡ false → Q rest) → Q (cond b x [] ++ rest)
  pick Q true x rest p q = p refl
  pick Q false x rest p q = q refl

  all_read : (c : Cursor) → c.at ≤ length file → Reads c.shape (joined (kept_of file) (pieces file c))
  unfolding joined kept_of
  all_read =
      by-pieces file (λ c ps. Reads c.shape (joined (kept_of file) ps)) (λ c e D d k. at-end k (D ++ []) (cur (length D) c.shape) d (omega (arith, ap length (append-nil D))))
      (λ c ps l m n h. pick (Reads c.shape) (reads file c) (take ((onward file c).at - c.at) (drop c.at file)) (joined (kept_of file) ps)
      (λ r. kept_again c (onward file c) (joined (kept_of file) ps) l m n r (onward-read file c r) h)
      (λ r. subst (λ (o : Cursor). Reads o.shape (joined (kept_of file) ps)) (sym (onward-lost file c r)) h))

  -- "a new file of the fields read"
  pub new-undamaged : undamaged (written file) ≡ true
  new-undamaged = all_read file_start (omega arith) [] (omega (arith, written-short file)) (length (written file))

  pub saved-again : (written (written file) ≡ written file) × (dropped (written file) ≡ [])
  saved-again = undamaged-file (written file) new-undamaged
