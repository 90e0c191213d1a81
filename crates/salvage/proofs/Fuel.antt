-- The number of pieces that `pieces_from` is given says nothing: any that is at least what is left of the file gives the same.
-- Assumes nothing.
use mathlib.Core.Path.{◌≡◌, refl, sym, ap, ◌∙◌}
use mathlib.Core.Bool.{Bool, true, false, cond}
use mathlib.Core.List.{List, [], ◌∷◌}
use Prim.Native.Nat.{ℕ, zero, suc, ◌+◌, ◌≤◌, ◌<◌}
use native.Mathlib.Omega.{arith}
use borrow.Author.Tests.{ltb-true, le-ltb, lt-ltb}
use lib.Dec.{ltb}
use lib.ListN.{length}
use Rattle.file_fields.specs.declared.cursor.Cursor.{Cursor}
use Rattle.salvage.specs.declared.search.Piece.{Piece}
use Rattle.salvage.specs.Pieces.{onward, piece_at, pieces_from, pieces}
use Rattle.salvage.proofs.Moves.{moves}

over : (k : ℕ) (file : List ℕ) (c : Cursor) → length file ≤ c.at → pieces_from k file c ≡ []
unfolding pieces_from
over zero file c h = refl
over (suc k) file c h = rw (le-ltb c.at (length file) h)

enough : (k j : ℕ) (file : List ℕ) (c : Cursor) → length file ≤ c.at + k → length file ≤ c.at + j → pieces_from k file c ≡ pieces_from j file c
unfolding pieces_from
enough zero j file c h g = sym (over j file c (omega arith))
enough (suc k) zero file c h g = over (suc k) file c (omega arith)
enough (suc k) (suc j) file c h g =
    same (ltb c.at (length file))
    (λ e. let m = moves file c (ltb-true c.at (length file) e) in enough k j file (onward file c) (omega arith) (omega arith))
  where
    same : {x y : List Piece} (b : Bool) → (b ≡ true → x ≡ y) → cond b (piece_at file c ∷ x) [] ≡ cond b (piece_at file c ∷ y) []
    same true e = ap (λ (s : List Piece). piece_at file c ∷ s) (e refl)
    same false e = refl

pub fuel : (file : List ℕ) (c : Cursor) (k : ℕ) → length file ≤ c.at + k → pieces_from k file c ≡ pieces file c
unfolding pieces
fuel file c k h = enough k (length file) file c h (omega arith)

-- ---- what a loop needs: no piece at the end, and before it one piece and then those from the next cursor on
pub no-piece : (file : List ℕ) (c : Cursor) → length file ≤ c.at → pieces file c ≡ []
unfolding pieces
no-piece file c h = over (length file) file c h

pub one_piece : (file : List ℕ) (c : Cursor) → c.at < length file → pieces file c ≡ piece_at file c ∷ pieces file (onward file c)
unfolding pieces pieces_from
one_piece file c h = enough (length file) (suc (length file)) file c (omega arith) (omega arith) ∙ rw (lt-ltb c.at (length file) h)
