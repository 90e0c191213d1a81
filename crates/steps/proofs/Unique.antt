-- Two outcomes that the contract of a runner allows are equal: it is one equation. Assumes nothing.
use mathlib.Core.Path.{◌≡◌}
use mathlib.Core.List.{List}
use lib.IntN.{ℤ}
use Rattle.algebra.proofs.Unique.{one}
use Rattle.steps.specs.Steps.{StepList}
use Rattle.steps.specs.Outcome.{Result, steps_outcome}

-- `run`
pub run-one : (p : StepList) (xs out : List ℤ) {r s : Result} → r ≡ steps_outcome p xs out → s ≡ steps_outcome p xs out → r ≡ s
run-one p xs out = one
