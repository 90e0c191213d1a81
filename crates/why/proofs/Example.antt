-- Document 01's whole case, 4x4 at d = 10, kind 1 twice, the first coefficient 64: at place 5 the residual is 2, and its parts are
-- 193600, 3520, 0 and 65024, together 2 * 2^17; place 16 is refused. Assumes nothing.
use mathlib.Core.Path.{◌≡◌, refl}
use mathlib.Core.List.{List, ◌∷◌}
use lib.IntN.{ℤ, pos}
use lib.ListN.{replicate}
use Rattle.algebra.specs.Sum.{sum}
use Rattle.algebra.specs.First.{first_at}
use Rattle.meaning.specs.declared.Shape.{Shape}
use Rattle.meaning.specs.Weights.{first, fold, S, weight}
use Rattle.meaning.specs.Line.{inverse_sum}
use Rattle.meaning.specs.Shape.{is_size, is_kind, is_depth, most_kept, keeps, shape_of}
use Rattle.meaning.specs.Plan.{short_range}
use Rattle.meaning.specs.Inverse.{column_sum, middle_at, row_sum, residual}
use Rattle.meaning.specs.Exact.{carried, exact, middle_roundings, clippings, last_rounding}
use Rattle.why.specs.Why.{no_parts, why_outcome}

abbrev shape : Shape
shape = shape_of 4 4 1 1 10

abbrev coefficients : List ℤ
coefficients = pos 64 ∷ replicate 15 (pos 0)

pub at_5 : why_outcome shape coefficients 5
    ≡ record { number = 0; place = 0; exact = pos 193600; middle_roundings = pos 3520; clippings = pos 0; last_rounding = pos 65024 }
unfolding sum first_at first fold S weight inverse_sum is_size is_kind is_depth most_kept keeps short_range column_sum middle_at row_sum residual carried exact middle_roundings clippings last_rounding
at_5 = refl

pub at-16 : why_outcome shape coefficients 16 ≡ no_parts 15 0
unfolding first_at is_size is_kind is_depth most_kept keeps
at-16 = refl
