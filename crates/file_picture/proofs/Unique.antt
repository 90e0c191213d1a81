-- What the contract of `shown` allows is one outcome. Assumes nothing.
use mathlib.Core.Path.{◌≡◌}
use mathlib.Core.List.{List}
use Prim.Native.Nat.{ℕ}
use Rattle.algebra.proofs.Unique.{one}
use Rattle.file_picture.specs.declared.shown.View.{View}
use Rattle.file_picture.specs.Shown.{shown_outcome}

pub shown-one : (file : List ℕ) (n : ℕ) (out : List ℕ) {x y : View × List ℕ} → x ≡ shown_outcome file n out → y ≡ shown_outcome file n out → x ≡ y
shown-one file n out = one
