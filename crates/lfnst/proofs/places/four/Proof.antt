-- `four` meets its contract: four places, one after another. Assumes nothing.
use borrow.Author.Rules.{rules}
use native.Mathlib.Omega.{arith}
use mathlib.Core.Path.{◌≡◌, refl, ap, ◌∙◌}
use Prim.Native.Nat.{◌+◌, ◌*◌}
use lib.ListN.{length-set}
use mir.Syntax.{w32}
use mir.ValLaws.{to_z-of_z}
use Rattle.algebra.specs.Lists.{at}
use Rattle.kernel_steps.proofs.Writing.{wrote_none, wrote_at}
use Rattle.lfnst.proofs.places.four.Statement.{statement}
use Rattle.lfnst.proofs.places.four.Tie as tie

mul-a : tie.Need-offset_bounds-v-o
mul-a c = search rules

element-copy-out-a : tie.Need-bounds-v-o
element-copy-out-a c = search rules

add-b : tie.Need-overflow_add-b
add-b c = search rules

mul-b : tie.Need-offset_bounds-v-o-2
mul-b c = search rules

element-copy-out-b : tie.Need-bounds-v-o-2
element-copy-out-b c = search rules

mul-c : tie.Need-overflow_mul-c
mul-c c = search rules

add-c : tie.Need-overflow_add-c
add-c c = search rules

mul-c-2 : tie.Need-offset_bounds-v-o-3
mul-c-2 c = search rules

element-copy-out-c : tie.Need-bounds-v-o-3
element-copy-out-c c = search rules

mul-d : tie.Need-overflow_mul-d
mul-d c = search rules

add-d : tie.Need-overflow_add-d
add-d c = search rules

mul-d-2 : tie.Need-offset_bounds-v-o-4
mul-d-2 c = search rules

element-copy-out-d : tie.Need-bounds-v-o-4
element-copy-out-d c = search rules

mul-a-2 : tie.Need-offset_bounds-numbers-p
mul-a-2 c = search rules

slice-set-from-a : tie.Need-bounds-numbers-p
slice-set-from-a c = search rules

add-b-2 : tie.Need-overflow_add-b-2
add-b-2 c = search rules

mul-b-2 : tie.Need-offset_bounds-numbers-p-2
mul-b-2 c = search rules

slice-set-from-b : tie.Need-bounds-numbers-p-2
slice-set-from-b c = simp length-set (omega (arith, c.before.before.before.before.requires.1.1))

add-c-2 : tie.Need-overflow_add-c-2
add-c-2 c = search rules

mul-c-3 : tie.Need-offset_bounds-numbers-p-3
mul-c-3 c = search rules

slice-set-from-c : tie.Need-bounds-numbers-p-3
slice-set-from-c c = simp length-set (omega (arith, c.before.before.before.before.requires.1.1))

add-d-2 : tie.Need-overflow_add-d-2
add-d-2 c = search rules

mul-d-3 : tie.Need-offset_bounds-numbers-p-4
mul-d-3 c = search rules

slice-set-from-d : tie.Need-bounds-numbers-p-4
slice-set-from-d c = simp length-set (omega (arith, c.before.before.before.before.requires.1.1))

same_length : tie.Need-shape_of-numbers
same_length c = search rules

returns : tie.Need-returns
returns c =
    let s = c.before.before.before.before in
    let p = s.args.p in
    let o = s.args.o in
    let step = s.args.step in
    let v = s.args.v.now in
    let r = s.requires.1.1 in
    let start : p ≡ p + 0 = omega arith in
    let first : o ≡ o + 0 * step = omega arith in
    let second : o + step ≡ o + 1 * step = omega arith in
    wrote_at (p + 3) 4 _ refl refl (omega (arith, r))
    (wrote_at (p + 2) 3 _ refl refl (omega (arith, r))
    (wrote_at (p + 1) 2 _ refl refl (omega (arith, r))
    (wrote_at p 1 _ start refl (omega (arith, r)) (wrote_none p s.args.numbers.now (λ k. at v (o + k * step)))
    (to_z-of_z w32 (at v o) (record { sfits = c.before.before.before.a-1.given }) ∙ ap (at v) first))
    (to_z-of_z w32 (at v (o + step)) (record { sfits = c.before.before.b-1.given }) ∙ ap (at v) second))
    (to_z-of_z w32 (at v (o + 2 * step)) (record { sfits = c.before.c-1.given })))
    (to_z-of_z w32 (at v (o + 3 * step)) (record { sfits = c.d-1.given }))

pub four_spec : {M : Type 1} → statement M
four_spec =
    tie.close
    (tie.spec
    mul-a
    element-copy-out-a
    add-b
    mul-b
    element-copy-out-b
    mul-c
    add-c
    mul-c-2
    element-copy-out-c
    mul-d
    add-d
    mul-d-2
    element-copy-out-d
    mul-a-2
    slice-set-from-a
    add-b-2
    mul-b-2
    slice-set-from-b
    add-c-2
    mul-c-3
    slice-set-from-c
    add-d-2
    mul-d-3
    slice-set-from-d
    same_length
    returns)
