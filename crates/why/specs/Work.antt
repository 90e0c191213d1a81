-- What the functions inside are given, and what they hand each other.
use Rattle.std.specs.Prelude.{Bool, List, ℕ, ◌^◌, ℤ}
use Rattle.meaning.specs.declared.Shape.{Shape}
use Rattle.meaning.specs.Plan.{Plan, reach}
use Rattle.meaning.specs.Taken.{TakenLongBlock, NoneAbove}
use Rattle.meaning.specs.Inverse.{row_sum}
use Rattle.meaning.specs.Exact.{exact, middle_roundings, clippings}
use Rattle.layout.specs.Part.{Part}
use Rattle.why.specs.declared.sums.Sums.{Sums}

-- past 1 to 5, 20 and 6: a block whose output is as long as its input
abbrev pub Passed : Bool → Shape → List ℤ → Type 0
Passed extended sh c = TakenLongBlock extended sh c c

-- past 8 and 27 too
pub record Clean (extended : Bool) (sh : Shape) (c : List ℤ) : Type 0 where
  pub passed : Passed extended sh c
  pub kept : Part sh.width sh.height sh.columns sh.rows c
  pub small : NoneAbove (2 ^ reach extended sh.depth) c

-- three of the parts, and the row sum, of which the last rounding is made
abbrev pub sums_of : Plan → List ℤ → ℕ → ℕ → Sums
sums_of p c x y =
    record { exact = exact p c x y; middle_roundings = middle_roundings p c x y; clippings = clippings p c x y; row = row_sum p c x y }
