-- 2^R as the machine makes it. Assumes nothing.
use native.Mathlib.Omega.{arith}
use mathlib.Core.Path.{◌≡◌, ap, ◌∙◌}
use Prim.Native.Nat.{ℕ, ◌*◌, ◌%◌, ◌^◌, ◌≤◌}
use native.Mathlib.Nat.{one-mul, mod-eq_of_lt}
use lib.IntN.{pos}
use lib.Pow.{pow_mono}
use mir.Syntax.{w32}
use mir.Val.{to_z}
use mir.ValLaws.{to_z-of_z}
use Rattle.algebra.proofs.Machine.{MV}

pub small : (r : ℕ) → r ≤ 20 → 2 ^ r ≤ 1048576
small r h = pow_mono {i = r} {j = 20} h

pub made : (r : ℕ) → r ≤ 20 → to_z w32 ((1 * 2 ^ r) % 4294967296) ≡ pos (2 ^ r)
made r h =
    let s = small r h in
    let e : (1 * 2 ^ r) % 4294967296 ≡ 2 ^ r = rw one-mul (mod-eq_of_lt (omega arith)) in
    ap (to_z w32) e ∙ to_z-of_z w32 (pos (2 ^ r)) (record { sfits = omega arith })

abbrev pub edge_of : (r : ℕ) → r ≤ 20 → MV w32
edge_of r h = record { n = (1 * 2 ^ r) % 4294967296; z = pos (2 ^ r); size = 1048576; is = record { val = made r h; abs = small r h } }
