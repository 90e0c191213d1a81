-- Document 01, "What the library holds" and "Blocks": which numbers a shape may hold. Document 02, Wish 8: its kept part.
use Rattle.std.specs.Prelude.{Bool, cond, ◌&&◌, ◌||◌, ℕ, min, eqb, leb}
use Rattle.meaning.specs.declared.Shape.{Shape}

-- "lines of 4, 8, 16 and 32 points"
unfoldable pub is_size : ℕ → Bool
is_size n = eqb n 4 || (eqb n 8 || (eqb n 16 || eqb n 32))

-- "kind is not 1 (DST-VII) or 2 (DCT-VIII)"; Wish 1: "3 and 4 accept 0"
unfoldable pub is_kind : ℕ → Bool
is_kind kind = eqb kind 1 || (eqb kind 2 || eqb kind 0)

-- which lines there are: each kind has those sizes, and kind 0 has 2 and 64 points too
unfoldable pub has_line : ℕ → ℕ → Bool
has_line kind n = is_kind kind && (is_size n || (eqb kind 0 && (eqb n 2 || eqb n 64)))

-- 8 to a deepest one
abbrev pub is_depth_to : ℕ → ℕ → Bool
is_depth_to deepest d = leb 8 d && leb d deepest

-- "Bit depths d = 8 to 12"
unfoldable pub is_depth : ℕ → Bool
is_depth d = is_depth_to 12 d

-- Wish 14: "5 accepts 13..16 only with the switch on"
unfoldable pub is_long_depth : Bool → ℕ → Bool
is_long_depth extended d = cond extended (is_depth_to 16 d) (is_depth d)

-- the most that can be kept in a direction: "Kept columns are the first min(w,16), kept rows the first min(h,16)"; Wish 1: "All
-- 32 columns or rows are kept in a direction of kind 0"
unfoldable pub most_kept : ℕ → ℕ → ℕ
most_kept kind n = min n (cond (eqb kind 0) 32 16)

-- Wish 8: "at least 1 and at most what document 01 keeps, or at most what Wish 1 keeps for kind 0"
abbrev pub is_kept : ℕ → ℕ → ℕ → Bool
is_kept kind n k = leb 1 k && leb k (most_kept kind n)

-- "The shape carries kept columns and kept rows"
unfoldable pub keeps : Shape → Bool
keeps sh = is_kept sh.horizontal sh.width sh.columns && is_kept sh.vertical sh.height sh.rows

-- "where the file doesn't say, they are those numbers"
abbrev pub shape_of : ℕ → ℕ → ℕ → ℕ → ℕ → Shape
shape_of width height horizontal vertical depth =
    record {
      width = width;
      height = height;
      horizontal = horizontal;
      vertical = vertical;
      depth = depth;
      columns = most_kept horizontal width;
      rows = most_kept vertical height;
    }

-- a shape with other kept numbers
abbrev pub keeping : Shape → ℕ → ℕ → Shape
keeping sh columns rows =
    record {
      width = sh.width;
      height = sh.height;
      horizontal = sh.horizontal;
      vertical = sh.vertical;
      depth = sh.depth;
      columns = columns;
      rows = rows;
    }
