-- What a loop that joins pieces has written, and what is still to come. Assumes nothing.
use mathlib.Core.Path.{◌≡◌, refl, sym, ap, ◌∙◌, subst}
use mathlib.Core.Bool.{true, false}
use mathlib.Core.List.{List, [], ◌∷◌, ◌++◌, append_assoc, append-nil}
use Prim.Native.Nat.{ℕ, ◌+◌, ◌-◌, ◌≤◌, ◌<◌}
use native.Mathlib.Numerals.{add-one}
use native.Mathlib.Omega.{arith}
use lib.ListN.{length, take, drop, get_or, take-append-drop, length-append}
use lib.Seq.{take-suc, take_all}
use Rattle.file_fields.specs.declared.cursor.Cursor.{Cursor}
use Rattle.file_fields.specs.Cursor.{file_start}
use Rattle.file_text.specs.Wrote.{Wrote}
use Rattle.file_text.proofs.Writing.{and_then, retext, later}
use Rattle.salvage.specs.declared.search.Piece.{Piece}
use Rattle.salvage.specs.Pieces.{onward, piece_at, pieces, joined, kept_of, dropped_of}
use Rattle.algebra.specs.Lists.{over}
use Rattle.salvage.proofs.Moves.{moves}
use Rattle.salvage.proofs.Fuel.{no-piece, one_piece}

-- ---- a piece
module _ (p : Piece) where
  pub not-dropped : p.kept ≡ true → dropped_of p ≡ []
  unfolding dropped_of
  not-dropped e = rw e

  pub is-dropped : p.kept ≡ false → dropped_of p ≡ p.offset ∷ p.bytes ∷ []
  unfolding dropped_of
  is-dropped e = rw e

  pub not-kept : (file : List ℕ) → p.kept ≡ false → kept_of file p ≡ []
  unfolding kept_of
  not-kept file e = rw e

  pub is-kept : (file : List ℕ) → p.kept ≡ true → take (p.offset + p.bytes - p.offset) (drop p.offset file) ≡ kept_of file p
  unfolding kept_of
  is-kept file e =
      let n : p.offset + p.bytes - p.offset ≡ p.bytes = omega arith in
      rw e (ap (λ (k : ℕ). take k (drop p.offset file)) n)

-- ---- a copy, byte by byte
module _ (part : List ℕ) (i : ℕ) where
  pub copied_more : {at p r : ℕ} {o o₁ o₂ : List ℕ} → i < length part → Wrote (take i part) i at o o₁ p → Wrote (get_or part i 0 ∷ []) 1 p o₁ o₂ r → Wrote (take (i + 1) part) (i + 1) at o o₂ r
  copied_more h a b = retext (sym (rw (add-one i) (take-suc part i 0 h))) (and_then a b)

  pub copied_all : {at p : ℕ} {o o₁ : List ℕ} → i ≡ length part → Wrote (take i part) i at o o₁ p → Wrote part (length part) at o o₁ p
  copied_all {at} {p} {o} {o₁} e w = retext (take_all (length part) part (omega arith)) (subst (λ (k : ℕ). Wrote (take k part) k at o o₁ p) e w)

-- ---- the loops over pieces
pub within : (file : List ℕ) (c : Cursor) (p : Piece) → c.at < length file → p ≡ piece_at file c → p.offset + p.bytes ≤ length file
within file c p h e = let m = moves file c h in subst (λ (q : Piece). q.offset + q.bytes ≤ length file) (sym e) (omega (arith, m.0, m.1))

-- `more` is still to be written behind place p of a buffer
pub record Writing (all more old buffer : List ℕ) (p : ℕ) : Type 0 where
  pub done : take p buffer ++ more ≡ all
  pub beyond : drop p buffer ≡ drop p old
  pub long : length buffer ≡ length old
  pub count : p + length more ≡ length all

module _ (of : Piece → List ℕ) (file : List ℕ) where
  -- what is made of the pieces from a cursor on
  abbrev pub rest : Cursor → List ℕ
  rest c = joined of (pieces file c)

  pub rest_more : (c : Cursor) → c.at < length file → rest c ≡ of (piece_at file c) ++ rest (onward file c)
  unfolding joined
  rest_more c h = ap (joined of) (one_piece file c h)

  pub rest_end : (c : Cursor) → length file ≤ c.at → rest c ≡ []
  unfolding joined
  rest_end c h = ap (joined of) (no-piece file c h)

  pub begun : (c : Cursor) (old : List ℕ) → c ≡ file_start → Writing (rest file_start) (rest c) old old 0
  begun c old e = record { done = ap rest e; beyond = refl; long = refl; count = omega (arith, ap (λ (k : Cursor). length (rest k)) e) }

  -- a piece more
  module _ (c : Cursor) (p : Piece) (n : Cursor) (h : c.at < length file) (e : p ≡ piece_at file c) (g : n ≡ onward file c) where
    rest-so : rest c ≡ of p ++ rest n
    rest-so = rest_more c h ∙ (λ i. of (sym e i) ++ rest (sym g i))

    pub count-more : length (rest c) ≡ length (of p) + length (rest n)
    count-more = ap length rest-so ∙ length-append (of p) (rest n)

    pub written-more : {old buffer buffer' : List ℕ} {at m r : ℕ} → Writing (rest file_start) (rest c) old buffer at → Wrote (of p) m at buffer buffer' r → length buffer' ≡ length buffer → Writing (rest file_start) (rest n) old buffer' r
    written-more {old} {buffer} {buffer'} {at} {m} {r} a w l =
        record {
          done = ap (λ (x : List ℕ). x ++ rest n) w.front ∙ append_assoc (take at buffer) (of p) (rest n) ∙ ap (λ (x : List ℕ). take at buffer ++ x) (sym rest-so) ∙ a.done;
          beyond = w.beyond ∙ later at (length (of p)) r old buffer w.next a.beyond;
          long = l ∙ a.long;
          count = omega (arith, w.next, a.count, count-more);
        }

  pub ended : (c : Cursor) {old buffer : List ℕ} {p : ℕ} → length file ≤ c.at → Writing (rest file_start) (rest c) old buffer p → (p ≡ length (rest file_start)) × (buffer ≡ over (rest file_start) old)
  ended c {old} {buffer} {p} h a =
      let t : take p buffer ≡ rest file_start = sym (append-nil (take p buffer)) ∙ ap (λ (x : List ℕ). take p buffer ++ x) (sym (rest_end c h)) ∙ a.done in
      let n : p ≡ length (rest file_start) = omega (arith, a.count, ap length (rest_end c h)) in
      (n, sym (take-append-drop p buffer) ∙ (λ i. t i ++ a.beyond i) ∙ ap (λ (k : ℕ). rest file_start ++ drop k old) n)
