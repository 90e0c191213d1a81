-- Two outcomes that the contract of `inverse` allows are equal. Assumes nothing.
use mathlib.Core.Path.{◌≡◌}
use mathlib.Core.Bool.{Bool}
use mathlib.Core.List.{List}
use lib.IntN.{ℤ}
use Rattle.algebra.proofs.Unique.{one}
use Rattle.meaning.specs.declared.Shape.{Shape}
use Rattle.meaning.specs.Answer.{Outcome}
use Rattle.meaning.specs.Long.{long_outcome}

pub long-one : (extended : Bool) (sh : Shape) (c out : List ℤ) {o p : Outcome} → o ≡ long_outcome extended sh c out → p ≡ long_outcome extended sh c out → o ≡ p
long-one extended sh c out = one
