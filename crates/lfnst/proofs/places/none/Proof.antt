-- `none` meets its contract: four places, one after another. Assumes nothing.
use borrow.Author.Rules.{rules}
use native.Mathlib.Omega.{arith}
use mathlib.Core.Path.{◌≡◌, refl}
use Prim.Native.Nat.{◌+◌}
use lib.ListN.{length-set}
use lib.IntN.{pos}
use Rattle.kernel_steps.proofs.Writing.{wrote_none, wrote_at}
use Rattle.lfnst.proofs.places.none.Statement.{statement}
use Rattle.lfnst.proofs.places.none.Tie as tie

mul-numbers : tie.Need-offset_bounds-numbers-p
mul-numbers c = search rules

slice-set-of-numbers : tie.Need-slice_set_of-numbers
slice-set-of-numbers c = search rules

add-numbers : tie.Need-overflow_add-numbers
add-numbers c = search rules

mul-numbers-2 : tie.Need-offset_bounds-numbers-p-2
mul-numbers-2 c = search rules

slice-set-of-numbers-2 : tie.Need-slice_set_of-numbers-2
slice-set-of-numbers-2 c = simp length-set (omega (arith, c.requires))

add-numbers-2 : tie.Need-overflow_add-numbers-2
add-numbers-2 c = search rules

mul-numbers-3 : tie.Need-offset_bounds-numbers-p-3
mul-numbers-3 c = search rules

slice-set-of-numbers-3 : tie.Need-slice_set_of-numbers-3
slice-set-of-numbers-3 c = simp length-set (omega (arith, c.requires))

add-numbers-3 : tie.Need-overflow_add-numbers-3
add-numbers-3 c = search rules

mul-numbers-4 : tie.Need-offset_bounds-numbers-p-4
mul-numbers-4 c = search rules

slice-set-of-numbers-4 : tie.Need-slice_set_of-numbers-4
slice-set-of-numbers-4 c = simp length-set (omega (arith, c.requires))

same_length : tie.Need-shape_of-numbers
same_length c = search rules

returns : tie.Need-returns
returns c =
    let p = c.args.p in
    let start : p ≡ p + 0 = omega arith in
    wrote_at (p + 3) 4 _ refl refl (omega (arith, c.requires))
    (wrote_at (p + 2) 3 _ refl refl (omega (arith, c.requires))
    (wrote_at (p + 1) 2 _ refl refl (omega (arith, c.requires)) (wrote_at p 1 _ start refl (omega (arith, c.requires)) (wrote_none p c.args.numbers.now (λ _. pos 0)) refl) refl) refl)
    refl

pub none_spec : {M : Type 1} → statement M
none_spec =
    tie.close
    (tie.spec
    mul-numbers
    slice-set-of-numbers
    add-numbers
    mul-numbers-2
    slice-set-of-numbers-2
    add-numbers-2
    mul-numbers-3
    slice-set-of-numbers-3
    add-numbers-3
    mul-numbers-4
    slice-set-of-numbers-4
    same_length
    returns)
