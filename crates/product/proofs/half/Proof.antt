-- `half` meets its contract: at most 2^19. Assumes nothing.
use borrow.Author.Rules.{rules}
use mathlib.Core.Path.{◌≡◌, sym, ap, ◌∙◌, subst}
use Prim.Native.Nat.{◌*◌, ◌-◌, ◌%◌, ◌^◌, ◌≤◌}
use native.Mathlib.Omega.{arith}
use native.Mathlib.Nat.{one-mul, mod-eq_of_lt}
use lib.IntN.{ℤ, pos}
use lib.Pow.{pow_mono}
use mir.Syntax.{w32}
use mir.Val.{to_z}
use mir.ValLaws.{to_z-of_z}
use Rattle.product.specs.Product.{Rounding}
use Rattle.product.proofs.half.Statement.{statement}
use Rattle.product.proofs.half.Tie as tie

small : (c : tie.Start) → 2 ^ (c.args.shift - 1) ≤ 524288
small c = pow_mono {j = 19} (omega arith)

sub-result : tie.Need-overflow_sub-result
sub-result c = search rules

cast-result : tie.Need-overflow_cast-result
cast-result c = search rules

shl-result : tie.Need-overflow_shl-result
shl-result c = search rules

returns : tie.Need-returns
returns c =
    let h = small c in
    let e : (1 * 2 ^ (c.args.shift - 1)) % 4294967296 ≡ 2 ^ (c.args.shift - 1) = rw one-mul (mod-eq_of_lt (omega arith)) in
    let v = ap (to_z w32) e ∙ to_z-of_z w32 (pos (2 ^ (c.args.shift - 1))) (record { sfits = omega arith }) in
    (v, subst (λ (z : ℤ). Rounding z c.args.shift) (sym v) (record { small = omega arith; short = omega arith }))

pub half_spec : {M : Type 1} → statement M
half_spec = tie.close (tie.spec sub-result cast-result shl-result returns)
