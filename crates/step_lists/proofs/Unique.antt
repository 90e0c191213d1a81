-- Two outcomes that the contract of a function of this crate allows are equal: each is one equation. Assumes nothing.
use mathlib.Core.Path.{◌≡◌}
use mathlib.Core.Bool.{Bool}
use mathlib.Core.List.{List}
use Prim.Native.Nat.{ℕ}
use lib.IntN.{ℤ}
use Rattle.algebra.proofs.Unique.{one}
use Rattle.steps.specs.Outcome.{Result}
use Rattle.step_lists.specs.Listed.{HandedList, is_listed, list_outcome, step_line_outcome}

-- `is_listed`, `list`, `forward`
module _ (n : ℕ) where
  pub listed-one : {r s : Bool} → r ≡ is_listed n → s ≡ is_listed n → r ≡ s
  listed-one = one

  pub list-one : (steps outs : List ℤ) {r s : HandedList} → r ≡ list_outcome n steps outs → s ≡ list_outcome n steps outs → r ≡ s
  list-one steps outs = one

  pub forward-one : (x y : List ℤ) {r s : Result} → r ≡ step_line_outcome n x y → s ≡ step_line_outcome n x y → r ≡ s
  forward-one x y = one
