-- `number` meets its contract. Assumes nothing.
use mathlib.Core.Path.{◌≡◌, ◌∙◌}
use Prim.Native.Nat.{ℕ, ◌<◌}
use native.Mathlib.Omega.{arith}
use borrow.Author.Tests.{lt-ltb}
use mir.Syntax.{w16}
use mir.Val.{to_z}
use mir.ValLaws.{to_z-of_z}
use Rattle.file_numbers.specs.Numbers.{signed16}
use Rattle.file_numbers.proofs.bytes.number.Goals as goal

-- two's complement in 16 bits is the library's
signed : (n : ℕ) → n < 65536 → to_z w16 n ≡ signed16 n
unfolding signed16
signed n h = simp (lt-ltb n 65536 h)

pub returns : goal.returns
returns c = to_z-of_z w16 _ (record { sfits = c.from_be_bytes.type_inv }) ∙ c.from_be_bytes.ensures ∙ signed _ (omega arith)
