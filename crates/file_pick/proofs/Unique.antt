-- What the contract of `pick` allows is one cursor. Assumes nothing.
use mathlib.Core.Path.{◌≡◌}
use mathlib.Core.List.{List}
use Prim.Native.Nat.{ℕ}
use Rattle.algebra.proofs.Unique.{one}
use Rattle.file_fields.specs.declared.cursor.Cursor.{Cursor}
use Rattle.file_pick.specs.Pick.{picked}

pub pick-one : (file : List ℕ) (n : ℕ) {x y : Cursor} → x ≡ picked file n → y ≡ picked file n → x ≡ y
pick-one file n = one
