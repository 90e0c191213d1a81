-- The search is linear over the whole file: a dropped stretch of b bytes costs at most b tests of an offset, a kept one costs one
-- advance, and all of them together no more than the file has bytes. Assumes nothing.
use mathlib.Core.Bool.{Bool, true, false, cond}
use mathlib.Core.List.{List, [], ◌∷◌}
use Prim.Native.Nat.{ℕ, zero, suc, ◌+◌, ◌≤◌}
use native.Mathlib.Omega.{arith}
use lib.ListN.{length}
use Rattle.file_fields.specs.Cursor.{file_start}
use Rattle.salvage.specs.declared.search.Piece.{Piece}
use Rattle.salvage.specs.Pieces.{goes_on, goes_on_in, pieces, Covers}
use Rattle.salvage.proofs.Cover.{covers}

-- the offsets that `goes_on_in` tests
unfoldable pub tested : ℕ → List ℕ → ℕ → ℕ
tested zero file at = 0
tested (suc k) file at = cond (goes_on file at) 1 (suc (tested k file (suc at)))

-- at most those of the stretch that it drops behind the first byte, and the one at which reading goes on
pub tested-few : (k : ℕ) (file : List ℕ) (at : ℕ) → at + tested k file at ≤ goes_on_in k file at + 1
unfolding tested goes_on_in
tested-few zero file at = omega arith
tested-few (suc k) file at = pick (tested k file (suc at)) (goes_on_in k file (suc at)) (goes_on file at) (tested-few k file (suc at))
  where
    pick : (t g : ℕ) (b : Bool) → suc at + t ≤ g + 1 → at + cond b 1 (suc t) ≤ cond b at g + 1
    pick t g true h = omega arith
    pick t g false h = omega arith

-- a dropped stretch counts by its bytes, a kept one as one
abbrev pub effort : List Piece → ℕ
effort [] = 0
effort (p ∷ ps) = cond p.kept 1 p.bytes + effort ps

effort-within : (ps : List Piece) (at end : ℕ) → Covers at ps end → at + effort ps ≤ end
effort-within [] at end h = omega arith
effort-within (p ∷ ps) at end h = pick (effort ps) p.kept (effort-within ps (at + p.bytes) end h.2)
  where
    pick : (e : ℕ) (b : Bool) → at + p.bytes + e ≤ end → at + (cond b 1 p.bytes + e) ≤ end
    pick e true g = omega (arith, h.1)
    pick e false g = omega arith

pub linear : (file : List ℕ) → effort (pieces file file_start) ≤ length file
linear file = omega (arith, effort-within (pieces file file_start) 0 (length file) (covers file))
