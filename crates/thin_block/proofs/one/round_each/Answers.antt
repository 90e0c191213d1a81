-- `round_each` meets its contract: the numbers before k are rounded, and no number grows by that. Assumes nothing.
use borrow.Author.Rules.{rules}
use native.Mathlib.Omega.{arith}
use mathlib.Core.Path.{◌≡◌, refl, sym, ap, ◌∙◌, subst}
use Prim.Native.Nat.{ℕ, ◌*◌, ◌^◌, ◌≤◌, ◌<◌}
use native.Mathlib.Nat.{le_refl, mul-le-mul_right}
use lib.IntN.{ℤ, nat_abs}
use lib.Pow.{pow_mono}
use mir.Syntax.{w32, w64}
use mir.Val.{SFits, to_z, of_z}
use mir.ValLaws.{to_z-of_z}
use Rattle.algebra.specs.Shift.{nearest}
use Rattle.algebra.specs.Lists.{at}
use Rattle.algebra.proofs.Order.{within, fits_in}
use Rattle.algebra.proofs.Shift.{nearest_in}
use Rattle.algebra.proofs.Lists.{fill_none, fill-first, filled-to}
use Rattle.algebra.proofs.Machine.{MV, arg, cast, cast_fits, val}
use Rattle.algebra.proofs.Word.{Is, cast_v! }
use Rattle.thin_block.proofs.one.round_each.Goals as goal
use Rattle.thin_block.proofs.one.round_each.Goals.{After-nearest-arg-1}

-- a number of 32 bits over 2 or more is at most 2^30
rounded-fits : (s : ℕ) (z : ℤ) → 0 < s → nat_abs z ≤ 2147483648 → SFits w32 (nearest s z)
rounded-fits s z p h =
    let two : 2 ^ 1 ≤ 2 ^ s = pow_mono {i = 1} {j = s} p in
    let m : 2 * 1073741824 ≤ 2 ^ s * 1073741824 = mul-le-mul_right 1073741824 two in
    fits_in tt (within (nearest s z) (nearest_in s z 1073741824 p (omega (arith, m))))

-- the number at this place is as it was
module _ (c : After-nearest-arg-1) where
  abbrev element : MV w32
  element = arg {w = w32} {x = at c.loop-k.out c.loop-k.k} (record { sfits = c.nearest-arg-1.given })

  same : at c.loop-k.out c.loop-k.k ≡ at c.args.out.now c.loop-k.k
  same = c.loop-k.invariant.after c.loop-k.k (omega arith)

  fits : SFits w32 (nearest c.args.s (at c.args.out.now c.loop-k.k))
  fits = rounded-fits c.args.s (at c.args.out.now c.loop-k.k) c.requires.0 (subst (λ (z : ℤ). nat_abs z ≤ 2147483648) same element.is.abs)

pub loop-k-init : goal.loop-k-init
loop-k-init c = fill_none 0 _ _

pub overflow_cast-out : goal.overflow_cast-out
overflow_cast-out c = cast_fits w64 (element (goal.at.overflow_cast-out c).After-nearest-arg-1) tt

pub nearest-requires : goal.nearest-requires
nearest-requires c =
    let A = (goal.at.nearest-requires c).After-nearest-arg-1 in
    (subst (λ (z : ℤ). nat_abs z ≤ 1000000000000000000) (sym (val (cast w64 (element A) tt))) (omega (arith, (element A).is.abs)), c.requires)

pub overflow_cast-out-in-loop-k : goal.overflow_cast-out-in-loop-k
overflow_cast-out-in-loop-k c =
    let A = (goal.at.overflow_cast-out-in-loop-k c).After-nearest-arg-1 in
    subst (SFits w32) (sym (to_z-of_z w64 c.nearest.result (search rules) ∙ c.nearest.ensures ∙ ap (nearest c.args.s) (val (cast w64 (element A) tt) ∙ same A))) (fits A)

pub loop-k-preserved : goal.loop-k-preserved
loop-k-preserved c =
    let A = (goal.at.loop-k-preserved c).After-nearest-arg-1 in
    let z = nearest c.args.s (at c.args.out.now c.loop-k.k) in
    let word : Is w64 (of_z w64 c.nearest.result) z (nat_abs z) = record { val = to_z-of_z w64 c.nearest.result (search rules) ∙ c.nearest.ensures ∙ ap (nearest c.args.s) (val (cast w64 (element A) tt) ∙ same A); abs = le_refl (nat_abs z) } in
    fill-first _ c.loop-k-test.true c.loop-k.invariant (cast_v! word (fits A)).val

pub returns : goal.returns
returns c = filled-to refl (omega arith) (omega arith) c.loop-k.invariant
