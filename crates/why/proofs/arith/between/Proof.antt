-- `between` meets its contract. Assumes nothing.
use borrow.Author.Rules.{rules}
use native.Mathlib.Omega.{arith}
use mathlib.Core.Path.{◌≡◌, sym, ap, ◌∙◌, subst}
use Prim.Native.Nat.{◌≤◌}
use lib.IntN.{ℤ, nat_abs}
use mir.Syntax.{w32, w64}
use mir.ValLaws.{to_z-of_z}
use Rattle.algebra.specs.Clip.{clip}
use Rattle.algebra.specs.Shift.{nearest}
use Rattle.algebra.proofs.Machine.{MV, arg, cast, cast_fits, val}
use Rattle.meaning.specs.Plan.{range_of}
use Rattle.meaning.specs.Inverse.{middle}
use Rattle.why.proofs.arith.between.Statement.{statement}
use Rattle.why.proofs.arith.between.Tie as tie

rounded-requires : tie.Need-rounded-requires
rounded-requires c κs = subst (λ (z : ℤ). nat_abs z ≤ 1000000000000000000) (sym (to_z-of_z w64 c.args.e c.ranges.e)) (omega (arith, c.requires.0))

clipped-requires : tie.Need-clipped-requires
clipped-requires c κs = c.before.requires.1

is : (c : tie.After-clipped) → let s = c.before.before in c.clipped.result ≡ middle (range_of s.args.reach) s.args.e
is c =
    let R = c.before in
    let s = R.before in
    c.clipped.ensures
    ∙ ap (clip (range_of s.args.reach)) (to_z-of_z w64 R.rounded.result (search rules) ∙ R.rounded.ensures ∙ ap (nearest 7) (to_z-of_z w64 s.args.e s.ranges.e))

abbrev m : tie.After-clipped → MV w32
m c = arg {w = w32} {x = c.clipped.result} (record { sfits = c.clipped.type_inv })

cast-result : tie.Need-overflow_cast-result
cast-result c = cast_fits w64 (m c) tt

returns : tie.Need-returns
returns c =
    let v = cast w64 (m c) tt in
    (val v ∙ is c, subst (λ (z : ℤ). nat_abs z ≤ 2147483648) (sym (val v)) v.is.abs)

pub between_spec : {M : Type 1} → statement M
between_spec = tie.close (tie.spec rounded-requires clipped-requires cast-result returns)
