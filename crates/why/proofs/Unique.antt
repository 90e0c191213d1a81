-- Two answers that the contract of `parts`, or of `long_parts`, allows are equal. Assumes nothing.
use mathlib.Core.Path.{◌≡◌}
use mathlib.Core.Bool.{Bool}
use mathlib.Core.List.{List}
use Prim.Native.Nat.{ℕ}
use lib.IntN.{ℤ}
use Rattle.algebra.proofs.Unique.{one}
use Rattle.meaning.specs.declared.Shape.{Shape}
use Rattle.why.specs.declared.answer.Parts.{Parts}
use Rattle.why.specs.Why.{why_outcome, long_why_outcome}

pub parts-one : (sh : Shape) (c : List ℤ) (place : ℕ) {r s : Parts} → r ≡ why_outcome sh c place → s ≡ why_outcome sh c place → r ≡ s
parts-one sh c place = one

pub long-parts-one : (extended : Bool) (sh : Shape) (c : List ℤ) (place : ℕ) {r s : Parts} → r ≡ long_why_outcome extended sh c place → s ≡ long_why_outcome extended sh c place → r ≡ s
long-parts-one extended sh c place = one
