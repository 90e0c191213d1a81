-- Two outcomes that the contract of `work`, or of `inverse`, allows are equal. Assumes nothing.
use mathlib.Core.Path.{◌≡◌}
use mathlib.Core.List.{List}
use lib.IntN.{ℤ}
use Rattle.algebra.proofs.Unique.{one}
use Rattle.meaning.specs.declared.Shape.{Shape}
use Rattle.thin_block.specs.Thin.{Areas, thin_outcome}
use Rattle.thin_block.specs.Handed.{Handed, handed}

pub work-one : (sh : Shape) (c a b : List ℤ) {o p : Areas} → o ≡ thin_outcome sh c a b → p ≡ thin_outcome sh c a b → o ≡ p
work-one sh c a b = one

pub inverse-one : {A : Type 0} (sh : Shape) (c a b : List ℤ) (x y : A) {o p : Handed A} → o ≡ handed sh c a b x y → p ≡ handed sh c a b x y → o ≡ p
inverse-one sh c a b x y = one
