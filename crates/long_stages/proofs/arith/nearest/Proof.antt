-- `nearest` meets its contract. Assumes nothing.
use borrow.Author.Rules.{rules}
use mathlib.Core.Path.{◌≡◌, ap, ◌∙◌}
use Prim.Native.Nat.{◌*◌, ◌-◌, ◌%◌, ◌^◌, ◌≤◌}
use native.Mathlib.Omega.{arith}
use native.Mathlib.Nat.{one-mul, mod-eq_of_lt}
use lib.IntN.{pos}
use lib.Pow.{pow_mono}
use mir.Syntax.{w64}
use mir.Val.{to_z}
use mir.ValLaws.{to_z-of_z}
use Rattle.algebra.proofs.Machine.{MV, arg≤, add, shr, add-fits, val}
use Rattle.long_stages.proofs.arith.nearest.Statement.{statement}
use Rattle.long_stages.proofs.arith.nearest.Tie as tie

-- 2^(s-1), at most 2^31
half : (c : tie.Start) → 2 ^ (c.args.s - 1) ≤ 2147483648
half c = pow_mono {j = 31} (omega arith)

made : (c : tie.Start) → to_z w64 ((1 * 2 ^ (c.args.s - 1)) % 18446744073709551616) ≡ pos (2 ^ (c.args.s - 1))
made c =
    let h = half c in
    let e : (1 * 2 ^ (c.args.s - 1)) % 18446744073709551616 ≡ 2 ^ (c.args.s - 1) = rw one-mul (mod-eq_of_lt (omega arith)) in
    ap (to_z w64) e ∙ to_z-of_z w64 (pos (2 ^ (c.args.s - 1))) (record { sfits = omega arith })

abbrev added : tie.Start → MV w64
added c = record { n = (1 * 2 ^ (c.args.s - 1)) % 18446744073709551616; z = pos (2 ^ (c.args.s - 1)); size = 2147483648; is = record { val = made c; abs = half c } }

sub-result : tie.Need-overflow_sub-result
sub-result c = search rules

cast-result : tie.Need-overflow_cast-result
cast-result c = search rules

shl-result : tie.Need-overflow_shl-result
shl-result c = search rules

add-result : tie.Need-overflow_add-result
add-result c = add-fits (arg≤ c.ranges.z c.requires.0) (added c) tt

cast-result-2 : tie.Need-overflow_cast-result-2
cast-result-2 c = search rules

shr-result : tie.Need-overflow_shr-result
shr-result c = search rules

returns : tie.Need-returns
returns c = val (shr (add (arg≤ c.ranges.z c.requires.0) (added c) tt) (2 ^ c.args.s) tt)

pub nearest_spec : {M : Type 1} → statement M
nearest_spec =
    tie.close
    (tie.spec sub-result cast-result shl-result add-result cast-result-2 shr-result returns)
