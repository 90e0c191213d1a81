-- Broken files, what is written of each and what is dropped. Assumes nothing.
use mathlib.Core.Path.{◌≡◌, refl}
use mathlib.Core.List.{List, [], ◌∷◌, ◌++◌, map}
use Prim.Native.Nat.{ℕ}
use lib.ListN.{take, drop, replicate}
use Rattle.meaning.specs.Shape.{is_size, is_kind, is_depth, most_kept, keeps}
use Rattle.file_fields.specs.Field.{shape_number, header_number, field_number, field_at}
use Rattle.file_fields.specs.Cursor.{found_at}
use Rattle.salvage.specs.Pieces.{data_follows, goes_on, goes_on_in, onward, pieces_from, pieces, joined, kept_of, written, dropped_of, dropped}

-- a shape of 4 by 4, kept numbers for it, and its sixteen coefficients
abbrev shape : List ℕ
shape = 1 ∷ 0 ∷ 5 ∷ 4 ∷ 4 ∷ 1 ∷ 1 ∷ 10 ∷ []

abbrev kept : List ℕ
kept = 4 ∷ 0 ∷ 2 ∷ 2 ∷ 3 ∷ []

abbrev data₁₆ : List ℕ
data₁₆ = 2 ∷ 0 ∷ 32 ∷ 0 ∷ 64 ∷ replicate 30 0

abbrev block : List ℕ
block = shape ++ data₁₆

-- a file, what is written and what is dropped
abbrev Case : Type 0
Case = List ℕ × (List ℕ × List ℕ)

abbrev pub cases : List Case
cases =
    (block, (block, []))
    -- three stray bytes
    ∷ (block ++ (9 ∷ 9 ∷ 9 ∷ []) ++ block, (block ++ block, 43 ∷ 3 ∷ []))
    -- data alone is no place to go on: the shape that holds before a stray byte is not kept for the data behind it
    ∷ (block ++ (9 ∷ []) ++ data₁₆ ++ block, (block ++ block, 43 ∷ 36 ∷ []))
    -- a tag 04 belongs to the shape before it
    ∷ ((9 ∷ []) ++ shape ++ kept ++ data₁₆, (shape ++ kept ++ data₁₆, 0 ∷ 1 ∷ []))
    -- 20 bytes missing within a body: the reader takes the first of the next block for them, and stops behind them
    ∷ (take 23 block ++ block, (take 23 block ++ take 20 block, 43 ∷ 23 ∷ []))
    -- a shape of width 5 and its data: nothing goes on
    ∷ (1 ∷ 0 ∷ 5 ∷ 5 ∷ drop 4 block, ([], 0 ∷ 43 ∷ []))
    ∷ []

abbrev got : Case → List ℕ × List ℕ
got v = (written v.0, dropped v.0)

pub cases-hold : map got cases ≡ map (λ (v : Case). v.1) cases
unfolding is_size is_kind is_depth most_kept keeps shape_number header_number field_number field_at found_at data_follows goes_on goes_on_in onward pieces_from pieces joined kept_of dropped_of
cases-hold = refl
