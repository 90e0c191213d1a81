-- Two outcomes that the contract of a function of this crate allows are equal: each is one equation. Assumes nothing.
use mathlib.Core.Path.{◌≡◌}
use mathlib.Core.List.{List}
use Prim.Native.Nat.{ℕ}
use lib.IntN.{ℤ}
use Rattle.algebra.proofs.Unique.{one}
use Rattle.picture.specs.declared.write.Written.{Written}
use Rattle.picture.specs.declared.read.Picture.{Picture}
use Rattle.picture.specs.Outcomes.{write_outcome, read_outcome}

-- `write`: the number, the length of the file, and every byte of the output
pub write-one : (w h : ℕ) (zs : List ℤ) (out : List ℕ) {x y : Written × List ℕ} → x ≡ write_outcome w h zs out → y ≡ write_outcome w h zs out → x ≡ y
write-one w h zs out = one

-- `read`: the number, the width, the height, and every residual of the output
pub read_one : (file : List ℕ) (out : List ℤ) {x y : Picture × List ℤ} → x ≡ read_outcome file out → y ≡ read_outcome file out → x ≡ y
read_one file out = one
