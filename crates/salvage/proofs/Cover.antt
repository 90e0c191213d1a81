-- "Kept and dropped stretches together cover the file once, in order". Assumes nothing.
use mathlib.Core.Path.{◌≡◌, refl, subst}
use mathlib.Core.List.{List, [], ◌∷◌}
use Prim.Native.Nat.{ℕ, zero, suc, ◌+◌, ◌-◌, ◌≤◌, ◌<◌}
use native.Mathlib.Omega.{arith}
use borrow.Author.Tests.{ltb-true, ltb-false}
use lib.Dec.{ltb}
use mathlib.Core.Bool.{Bool, true, false}
use lib.ListN.{length}
use Rattle.file_fields.specs.declared.cursor.Cursor.{Cursor}
use Rattle.file_fields.specs.Cursor.{file_start}
use Rattle.salvage.specs.declared.search.Piece.{Piece}
use Rattle.salvage.specs.Pieces.{onward, piece_at, pieces, Covers}
use Rattle.salvage.proofs.Moves.{moves}
use Rattle.salvage.proofs.Fuel.{no-piece, one_piece}

-- what holds at the end, and at a cursor where it holds at the next one, holds at every cursor within the file
pub by-pieces : (file : List ℕ) (P : Cursor → List Piece → Type 0)
    → ((c : Cursor) → c.at ≡ length file → P c [])
    → ((c : Cursor) (ps : List Piece) → c.at < length file → c.at < (onward file c).at → (onward file c).at ≤ length file → P (onward file c) ps → P c (piece_at file c ∷ ps))
    → (c : Cursor) → c.at ≤ length file → P c (pieces file c)
by-pieces file P none some c l = go (length file) c l (omega arith)
  where
    by : (c : Cursor) → c.at ≤ length file → (b : Bool) → ltb c.at (length file) ≡ b
        → (c.at < (onward file c).at → (onward file c).at ≤ length file → P (onward file c) (pieces file (onward file c)))
        → P c (pieces file c)
    by c l false e r = let h = ltb-false c.at (length file) e in rw (no-piece file c h) (none c (omega arith))
    by c l true e r =
        let b = ltb-true c.at (length file) e in
        let m = moves file c b in
        rw (one_piece file c b) (some c (pieces file (onward file c)) b m.0 m.1 (r m.0 m.1))

    go : (k : ℕ) (c : Cursor) → c.at ≤ length file → length file ≤ c.at + k → P c (pieces file c)
    go zero c l h = rw (no-piece file c (omega arith)) (none c (omega arith))
    go (suc k) c l h = by c l (ltb c.at (length file)) refl (λ m n. go k (onward file c) n (omega arith))

pub covers-from : (file : List ℕ) (c : Cursor) → c.at ≤ length file → Covers c.at (pieces file c) (length file)
covers-from file =
    by-pieces file (λ c ps. Covers c.at ps (length file)) (λ c e. e)
    (λ c ps l m n h. let e : (onward file c).at ≡ c.at + ((onward file c).at - c.at) = omega arith in
    (refl, omega arith, subst (λ (k : ℕ). Covers k ps (length file)) e h))

pub covers : (file : List ℕ) → Covers 0 (pieces file file_start) (length file)
covers file = covers-from file file_start (omega arith)
