-- Two outcomes that the contract of `row` allows are equal: the number, every answer, and every number of the output. Assumes
-- nothing.
use mathlib.Core.Path.{◌≡◌}
use mathlib.Core.List.{List}
use Prim.Native.Nat.{ℕ}
use lib.IntN.{ℤ}
use Rattle.algebra.proofs.Unique.{one}
use Rattle.meaning.specs.declared.Shape.{Shape}
use Rattle.block_row.specs.Row.{RowOutcome, row_outcome}

pub row_one : (shapes : List Shape) (answers : List ℕ) (c out : List ℤ) {o p : RowOutcome}
    → o ≡ row_outcome shapes answers c out → p ≡ row_outcome shapes answers c out → o ≡ p
row_one shapes answers c out = one
