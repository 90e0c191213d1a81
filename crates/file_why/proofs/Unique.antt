-- What the contract of `named` allows is one outcome. Assumes nothing.
use mathlib.Core.Path.{◌≡◌}
use mathlib.Core.List.{List}
use Prim.Native.Nat.{ℕ}
use Rattle.algebra.proofs.Unique.{one}
use Rattle.file_why.specs.declared.named.Reasons.{Reasons}
use Rattle.file_why.specs.Named.{named_outcome}

pub named-one : (file : List ℕ) (n place : ℕ) {x y : Reasons} → x ≡ named_outcome file n place → y ≡ named_outcome file n place → x ≡ y
named-one file n place = one
