-- Files whose text and number are known. Assumes nothing.
use mathlib.Core.Path.{◌≡◌, refl}
use mathlib.Core.List.{List, [], ◌∷◌}
use Prim.Native.Nat.{ℕ}
use lib.ListN.{take}
use Rattle.algebra.specs.Sum.{sum, sumℕ}
use Rattle.algebra.specs.Lists.{tabulate, block}
use Rattle.algebra.specs.First.{first_at}
use Rattle.meaning.specs.Shape.{is_size, is_kind, is_depth, most_kept, keeps}
use Rattle.meaning.specs.Plan.{short_range}
use Rattle.meaning.specs.Weights.{first, fold, S, C, weight}
use Rattle.meaning.specs.Line.{inverse_sum}
use Rattle.meaning.specs.Inverse.{column_sum, middle_at, rails, row_sum, residual, inverse_block}
use Rattle.file_fields.specs.Field.{shape_number, field_number, field_at}
use Rattle.file_fields.specs.Cursor.{found_at}
use Rattle.file_numbers.specs.Numbers.{signed16}
use Rattle.file_text.specs.Text.{digits, decimal, line}
use Rattle.file_run.specs.Run.{turn_at, printed_from, refusal_from, printed, refusal}

-- "Whole case, in hex: 01 00 05 04 04 01 01 0A 02 00 20 00 40 and thirty bytes 00"
abbrev pub whole_case : List ℕ
whole_case = 1 ∷ 0 ∷ 5 ∷ 4 ∷ 4 ∷ 1 ∷ 1 ∷ 10 ∷ 2 ∷ 0 ∷ 32 ∷ 0 ∷ 64 ∷ 0 ∷ 0 ∷ 0 ∷ 0 ∷ 0 ∷ 0 ∷ 0 ∷ 0 ∷ 0 ∷ 0 ∷ 0 ∷ 0 ∷ 0 ∷ 0 ∷ 0 ∷ 0 ∷ 0 ∷ 0 ∷ 0 ∷ 0 ∷ 0 ∷ 0 ∷ 0 ∷ 0 ∷ 0 ∷ 0 ∷ 0 ∷ 0 ∷ 0 ∷ 0 ∷ []

-- "I 4 4 0 0 1 1 1 1 2 2 2 1 2 3 3 1 2 3 3"
abbrev pub whole_text : List ℕ
whole_text = 73 ∷ 32 ∷ 52 ∷ 32 ∷ 52 ∷ 32 ∷ 48 ∷ 32 ∷ 48 ∷ 32 ∷ 49 ∷ 32 ∷ 49 ∷ 32 ∷ 49 ∷ 32 ∷ 49 ∷ 32 ∷ 50 ∷ 32 ∷ 50 ∷ 32 ∷ 50 ∷ 32 ∷ 49 ∷ 32 ∷ 50 ∷ 32 ∷ 51 ∷ 32 ∷ 51 ∷ 32 ∷ 49 ∷ 32 ∷ 50 ∷ 32 ∷ 51 ∷ 32 ∷ 51 ∷ 10 ∷ []

pub whole-case : printed whole_case ≡ whole_text
unfolding printed printed_from turn_at found_at field_at field_number shape_number signed16 digits decimal line is_size is_kind is_depth most_kept keeps short_range first fold S C weight inverse_sum column_sum middle_at rails row_sum residual inverse_block sum sumℕ tabulate block first_at
whole-case = refl

pub whole-ends : refusal whole_case ≡ 0
unfolding refusal refusal_from turn_at found_at field_at field_number shape_number signed16 is_size is_kind is_depth most_kept keeps short_range first fold S C weight inverse_sum column_sum middle_at rails row_sum residual inverse_block sum sumℕ tabulate block first_at
whole-ends = refl

-- without its last byte: "10 header or body cut short"
pub cut-ends : refusal (take 42 whole_case) ≡ 10
unfolding refusal refusal_from turn_at found_at field_at field_number shape_number is_size is_kind is_depth most_kept keeps
cut-ends = refl

-- "An empty file prints nothing"
pub empty : printed [] ≡ []
unfolding printed printed_from
empty = refl
