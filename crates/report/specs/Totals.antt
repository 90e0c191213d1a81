-- Document 02, Wish 10: "per size and kind the number of blocks, the rail counts, the largest difference .., and the sum of squared
-- differences in 64 bits". The totals are 578 numbers of 64 bits: four for each width, height and pair of kinds, then how many
-- blocks were refused, then how many were given. Any 578 numbers are totals, so sums are modulo 2^64.
use Rattle.std.specs.Prelude.{ℕ, ◌+◌, ◌-◌, ◌*◌, ◌%◌, ◌^◌, max, cond, List, [], ◌∷◌, replicate, ℤ, ◌==◌, nat_le, slice_index, slice_set}
use Rattle.algebra.specs.Refusals.{first_of}
use Rattle.meaning.specs.declared.Shape.{Shape}
use Rattle.meaning.specs.declared.Answer.{Answer}
use Rattle.meaning.specs.Answer.{test, refused}
use Rattle.meaning.specs.Forward.{log2}
use Rattle.forward_and_back.specs.Trip.{trip_answer, rail_count, largest, squares}

-- the total that stands at a place
abbrev pub total : List ℕ → ℕ → ℕ
total t i = slice_index t i

-- a number more, in 64 bits; the larger of two
abbrev pub plus : ℕ → ℕ → List ℕ → List ℕ
plus i x t = slice_set t i ((total t i + x) % 2 ^ 64)

abbrev pub raised : ℕ → ℕ → List ℕ → List ℕ
raised i x t = slice_set t i (max (total t i) x)

-- which four of the totals are a shape's: its sizes, 4, 8, 16 and 32 being 0 to 3, and its kinds, 0 to 2
abbrev pub side : ℕ → ℕ
side n = log2 n - 2

unfoldable pub class : Shape → ℕ
class sh = (side sh.width * 4 + side sh.height) * 9 + (sh.horizontal * 3 + sh.vertical)

abbrev pub place : Shape → ℕ
place sh = class sh * 4

-- behind the four of each width, height and pair of kinds
abbrev pub refused_place : ℕ
refused_place = 4 * 4 * 9 * 4

abbrev pub given_place : ℕ
given_place = refused_place + 1

unfoldable pub empty : List ℕ
empty = replicate (given_place + 1) 0

-- four numbers of a block, from the place i on
unfoldable pub entered : ℕ → ℕ → ℕ → ℕ → List ℕ → List ℕ
entered i rails far squared t = plus (i + 3) squared (raised (i + 2) far (plus (i + 1) rails (plus i 1 t)))

-- a block that was not refused in its four totals, "refused blocks being counted apart"
unfoldable pub counted : Shape → List ℤ → List ℕ → List ℕ
counted sh r t =
    cond ((trip_answer sh r).number == 0) (entered (place sh) (rail_count sh r) (largest sh r) (squares sh r) t) (plus refused_place 1 t)

-- "22 for one block too many, totals unchanged, before all others"; "A refused block counts towards the limit"
unfoldable pub add_outcome : List ℕ → Shape → List ℤ → Answer × List ℕ
add_outcome t sh r =
    first_of (test (nat_le 65536 (total t given_place)) 22 ∷ []) (λ number place. (refused number place, t))
    (trip_answer sh r, plus given_place 1 (counted sh r t))
