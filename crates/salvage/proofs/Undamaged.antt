-- "an undamaged file comes back unchanged with an empty list": what is written and dropped (`undamaged-file`), and the call
-- (`undamaged-call`). Assumes nothing.
use mathlib.Core.Path.{◌≡◌, refl, sym, ap, ◌∙◌, subst}
use mathlib.Core.Bool.{true, false}
use mathlib.Core.List.{List, [], ◌∷◌, ◌++◌}
use Prim.Native.Nat.{ℕ, zero, suc, ◌+◌, ◌*◌, ◌-◌, ◌≤◌, ◌<◌}
use native.Mathlib.Omega.{arith}
use borrow.Author.Tests.{le-ltb}
use lib.ListN.{length, take, drop, take-append-drop, drop_of_length-le}
use lib.Seq.{drop-drop}
use Rattle.algebra.specs.Lists.{over}
use Rattle.meaning.proofs.Cases.{and_cases}
use Rattle.file_fields.specs.declared.cursor.Cursor.{Cursor}
use Rattle.file_fields.specs.Cursor.{file_start, advance_of, too_long}
use Rattle.salvage.specs.declared.search.Piece.{Piece}
use Rattle.salvage.specs.declared.saving.Saved.{Saved}
use Rattle.salvage.specs.Pieces.{reads, onward, piece_at, pieces, joined, piece_bytes, kept_of, written, dropped_of, dropped, reads_all, undamaged}
use Rattle.salvage.specs.Outcomes.{places, salvage_outcome}
use Rattle.salvage.proofs.Moves.{onward-read}
use Rattle.salvage.proofs.Joining.{not-dropped}
use Rattle.salvage.proofs.Cover.{by-pieces}

-- all bytes of the pieces, kept or not, are what stands from the cursor on
pub whole-file : (file : List ℕ) (c : Cursor) → c.at ≤ length file → joined (piece_bytes file) (pieces file c) ≡ drop c.at file
unfolding joined
whole-file file =
    by-pieces file (λ c ps. joined (piece_bytes file) ps ≡ drop c.at file) (λ c e. sym (drop_of_length-le file {i = c.at} (omega arith)))
    (λ c ps l m n h. let b = (onward file c).at - c.at in
    let e : c.at + b ≡ (onward file c).at = omega arith in
    ap (λ (s : List ℕ). take b (drop c.at file) ++ s) (h ∙ ap (λ (k : ℕ). drop k file) (sym e) ∙ sym (drop-drop b c.at file)) ∙ take-append-drop b (drop c.at file))

module _ (file : List ℕ) where
  abbrev Kept : Cursor → List Piece → Type 0
  Kept c ps = (k : ℕ) → length file ≤ c.at + k → reads_all k file c ≡ true → (joined (kept_of file) ps ≡ joined (piece_bytes file) ps) × (joined dropped_of ps ≡ [])

  kept_more : (p : Piece) (ps : List Piece) → p.kept ≡ true → (joined (kept_of file) ps ≡ joined (piece_bytes file) ps) × (joined dropped_of ps ≡ [])
      → (joined (kept_of file) (p ∷ ps) ≡ joined (piece_bytes file) (p ∷ ps)) × (joined dropped_of (p ∷ ps) ≡ [])
  unfolding joined kept_of
  kept_more p ps e h = (rw e (ap (λ (s : List ℕ). piece_bytes file p ++ s) h.0), rw (not-dropped p e) h.1)

  kept-advance : (c : Cursor) (ps : List Piece) → c.at < length file → c.at < (onward file c).at → Kept (onward file c) ps → Kept c (piece_at file c ∷ ps)
  unfolding reads_all
  kept-advance c ps l m h zero g e = absurd (omega arith)
  kept-advance c ps l m h (suc k) g e =
      let b = and_cases (reads file c) (reads_all k file (advance_of file c).next) e in
      kept_more (piece_at file c) ps b.0
      (h k (omega arith) (subst (λ (n : Cursor). reads_all k file n ≡ true) (onward-read file c b.0) b.1))

  kept-all : (c : Cursor) → c.at ≤ length file → Kept c (pieces file c)
  unfolding joined
  kept-all = by-pieces file Kept (λ c e k g h. (refl, refl)) (λ c ps l m n h. kept-advance c ps l m h)

  pub undamaged-file : undamaged file ≡ true → (written file ≡ file) × (dropped file ≡ [])
  undamaged-file e =
      let h = kept-all file_start (omega arith) (length file) (omega arith) e in
      (h.0 ∙ whole-file file file_start (omega arith), h.1)

  -- with room for it, and where 14 lets it pass
  pub undamaged-call : undamaged file ≡ true → too_long file ≡ false → (out list : List ℕ) → length file ≤ length out → 2 * places ≤ length list
      → ◌≡◌ {A = Saved × List ℕ × List ℕ} (salvage_outcome file out list) (record { number = 0; bytes = length file; stretches = 0 }, over file out, list)
  undamaged-call e short out list room places-in =
      let (same, none) = undamaged-file e in
      rw (short, le-ltb (length out) (length file) room, le-ltb (length list) (2 * places) places-in, none, same)
