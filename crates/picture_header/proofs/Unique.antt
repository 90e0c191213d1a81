-- Two outcomes that the contract of a function of this crate allows are equal: each is one equation. Assumes nothing.
use mathlib.Core.Path.{◌≡◌}
use mathlib.Core.Bool.{Bool}
use mathlib.Core.List.{List}
use Prim.Native.Nat.{ℕ}
use Rattle.algebra.proofs.Unique.{one}
use Rattle.picture_header.specs.declared.Header.{Header}
use Rattle.picture_header.specs.declared.FoundHeader.{FoundHeader}
use Rattle.picture_header.specs.Header.{header_of, is_picture}

-- `header_of`: the header, and the place at which the samples start
pub header-one : (file : List ℕ) {x y : FoundHeader} → x ≡ header_of file → y ≡ header_of file → x ≡ y
header-one file = one

pub is-picture-one : (s : Header) {x y : Bool} → x ≡ is_picture s → y ≡ is_picture s → x ≡ y
is-picture-one s = one
