-- The new file is no longer than the old one, and its list has at most two numbers to a byte. Assumes nothing.
use mathlib.Core.Path.{◌≡◌, ap}
use mathlib.Core.Bool.{Bool, true, false, cond}
use mathlib.Core.List.{List, [], ◌∷◌}
use Prim.Native.Nat.{ℕ, ◌+◌, ◌*◌, ◌-◌, ◌≤◌, ◌<◌}
use native.Mathlib.Nat.{mul-add}
use native.Mathlib.Omega.{arith}
use lib.ListN.{length, take, drop, length-append, length-take}
use Rattle.file_fields.specs.declared.cursor.Cursor.{Cursor}
use Rattle.file_fields.specs.Cursor.{file_start}
use Rattle.salvage.specs.declared.search.Piece.{Piece}
use Rattle.salvage.specs.Pieces.{onward, reads, piece_at, pieces, joined, kept_of, written, dropped_of, dropped}
use Rattle.salvage.proofs.Cover.{by-pieces}

-- what makes at most k numbers of each byte of a piece makes at most k of each byte of the file
joined-short : (of : Piece → List ℕ) (k : ℕ) (file : List ℕ)
    → ((c : Cursor) → c.at < (onward file c).at → length (of (piece_at file c)) ≤ k * ((onward file c).at - c.at))
    → (c : Cursor) → c.at ≤ length file → length (joined of (pieces file c)) + k * c.at ≤ k * length file
unfolding joined
joined-short of k file few =
    by-pieces file (λ c ps. length (joined of ps) + k * c.at ≤ k * length file) (λ c e. omega (arith, ap (λ (n : ℕ). k * n) e))
    (λ c ps l m n h. let b = (onward file c).at - c.at in
    let e : (onward file c).at ≡ c.at + b = omega arith in
    omega (arith, h, few c m, length-append (of (piece_at file c)) (joined of ps), ap (λ (n : ℕ). k * n) e, mul-add k c.at b))

pub written-short : (file : List ℕ) → length (written file) ≤ length file
unfolding kept_of
written-short file =
    let h = joined-short (kept_of file) 1 file (λ c m. few (reads file c) ((onward file c).at - c.at) (drop c.at file)) file_start (omega arith) in
    omega (arith, h)
  where
    few : (kept : Bool) (b : ℕ) (l : List ℕ) → length (cond kept (take b l) []) ≤ 1 * b
    few true b l = omega (arith, length-take b l)
    few false b l = omega arith

pub dropped-short : (file : List ℕ) → length (dropped file) ≤ 2 * length file
unfolding dropped_of
dropped-short file =
    let h = joined-short dropped_of 2 file (λ c m. few (reads file c) c.at ((onward file c).at - c.at) (omega arith)) file_start (omega arith) in
    omega (arith, h)
  where
    few : (kept : Bool) (a b : ℕ) → 0 < b → length (cond kept [] (a ∷ b ∷ [])) ≤ 2 * b
    few true a b h = omega arith
    few false a b h = omega arith
