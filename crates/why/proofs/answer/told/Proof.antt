-- `told` meets its contract: the sums at the column and the row of the place, and the last rounding of the row sum. Assumes nothing.
use borrow.Author.Rules.{rules}
use native.Mathlib.Omega.{arith}
use mathlib.Core.Path.{◌≡◌, sym, ap, ◌∙◌, subst}
use Prim.Native.Nat.{ℕ, ◌/◌, ◌%◌, ◌^◌, ◌≤◌, ◌<◌}
use native.Mathlib.Nat.{mod-lt, div-lt_iff_lt-mul, mul_comm}
use lib.IntN.{ℤ, pos, nat_abs, ◌-ℤ◌, ◌*ℤ◌}
use mir.Syntax.{w64}
use mir.Val.{to_z, of_z}
use mir.ValLaws.{to_z-of_z}
use Rattle.algebra.specs.Shift.{nearest}
use Rattle.meaning.specs.Plan.{long_plan}
use Rattle.meaning.specs.Inverse.{row_sum, residual}
use Rattle.meaning.specs.Exact.{exact, middle_roundings, clippings, last_rounding}
use Rattle.meaning.proofs.Cases.{size-some}
use Rattle.meaning.proofs.LongRules.{long-depth, last-in}
use Rattle.why.specs.declared.sums.Sums.{Sums}
use Rattle.why.specs.Work.{Clean}
use Rattle.why.proofs.Reading.{wide, low, row_small}
use Rattle.why.proofs.answer.told.Statement.{statement}
use Rattle.why.proofs.answer.told.Tie as tie

module _ (s : tie.Start) where
  clean : Clean s.args.extended s.args.shape s.args.c.now
  clean = s.requires.0

  some : 0 < s.args.shape.width
  some = omega (arith, size-some s.args.shape.width clean.passed.taken.width)

  abbrev x : ℕ
  x = s.args.place % s.args.shape.width

  abbrev y : ℕ
  y = s.args.place / s.args.shape.width

  x-in : x < s.args.shape.width
  x-in = mod-lt s.args.place some

  y-in : y < s.args.shape.height
  y-in = (div-lt_iff_lt-mul some).1 (omega (arith, s.requires.1, mul_comm s.args.shape.width s.args.shape.height))

rem-x : tie.Need-nonzero_rem-x
rem-x c = some c.before

div-y : tie.Need-nonzero_div-y
div-y c = some c.before.before

cast-carried : tie.Need-overflow_cast-x
cast-carried c = let s = c.before.before in omega (arith, x-in s, wide s.args.extended s.args.shape s.args.c.now (clean s))

cast-carried-2 : tie.Need-overflow_cast-y
cast-carried-2 c = let s = c.before.before in omega (arith, y-in s, low s.args.extended s.args.shape s.args.c.now (clean s))

carried-requires : tie.Need-carried-s-requires
carried-requires c κs = let s = c.before.before in (clean s, (x-in s, y-in s))

last-shift-requires : tie.Need-last_shift-last-requires
last-shift-requires c κs =
    let s = c.before.before.before in
    (long-depth s.args.extended s.args.shape.depth (clean s).passed.taken.depth).1

-- each sum, as its field has it
exact-is : (c : tie.After-carried-s) → let s = c.before.before.before in
    to_z w64 (of_z w64 c.carried-s.result.exact) ≡ exact (long_plan s.args.extended s.args.shape) s.args.c.now (x s) (y s)
exact-is c = to_z-of_z w64 c.carried-s.result.exact (search rules) ∙ ap (λ (r : Sums). r.exact) c.carried-s.ensures

roundings-are : (c : tie.After-carried-s) → let s = c.before.before.before in
    to_z w64 (of_z w64 c.carried-s.result.middle_roundings) ≡ middle_roundings (long_plan s.args.extended s.args.shape) s.args.c.now (x s) (y s)
roundings-are c = to_z-of_z w64 c.carried-s.result.middle_roundings (search rules) ∙ ap (λ (r : Sums). r.middle_roundings) c.carried-s.ensures

clippings-are : (c : tie.After-carried-s) → let s = c.before.before.before in
    to_z w64 (of_z w64 c.carried-s.result.clippings) ≡ clippings (long_plan s.args.extended s.args.shape) s.args.c.now (x s) (y s)
clippings-are c = to_z-of_z w64 c.carried-s.result.clippings (search rules) ∙ ap (λ (r : Sums). r.clippings) c.carried-s.ensures

row_is : (c : tie.After-carried-s) → let s = c.before.before.before in
    to_z w64 (of_z w64 c.carried-s.result.row) ≡ row_sum (long_plan s.args.extended s.args.shape) s.args.c.now (x s) (y s)
row_is c = to_z-of_z w64 c.carried-s.result.row (search rules) ∙ ap (λ (r : Sums). r.row) c.carried-s.ensures

last-rounding-requires : tie.Need-last_rounding-requires
last-rounding-requires c κs =
    let L = c.before in
    let C = L.before in
    let s = C.before.before.before in
    let l = last-in s.args.extended s.args.shape.depth (clean s).passed.taken.depth in (
      subst (λ (z : ℤ). nat_abs z ≤ 2147483648) (sym (row_is C)) (row_small s.args.extended s.args.shape s.args.c.now (clean s) (x s) (y s) (x-in s)),
      (omega (arith, l, L.last_shift-last.ensures), omega (arith, l, L.last_shift-last.ensures)),
    )

returns : tie.Need-returns
unfolding last_rounding residual
returns c =
    let E = c.before in
    let L = E.before.before in
    let C = L.before in
    let e = L.last_shift-last.ensures in
    let l =
    to_z-of_z w64 E.last_rounding.result (search rules) ∙ E.last_rounding.ensures
    ∙ (λ t. pos 128 *ℤ (pos (2 ^ e t) *ℤ nearest (e t) (row_is C t) -ℤ row_is C t)) in
    λ t. record { number = 0; place = 0; exact = exact-is C t; middle_roundings = roundings-are C t; clippings = clippings-are C t; last_rounding = l t }

pub told_spec : {M : Type 1} → statement M
told_spec =
    tie.close
    (tie.spec
    rem-x
    div-y
    cast-carried
    cast-carried-2
    carried-requires
    last-shift-requires
    last-rounding-requires
    returns)
