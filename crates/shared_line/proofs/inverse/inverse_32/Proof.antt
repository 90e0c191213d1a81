-- `inverse::inverse_32` meets its contract. Assumes nothing.
use borrow.Author.Rules.{rules}
use native.Mathlib.Omega.{arith}
use mathlib.Core.Path.{refl, sym, ◌∙◌}
use Rattle.shared_steps.specs.Folds.{class_of}
use Rattle.shared_steps.specs.Lines.{used}
use Rattle.shared_steps.proofs.Sizes.{shared32}
use Rattle.shared_steps.proofs.Adding.{adding-none}
use Rattle.shared_steps.proofs.Classes.{joined_is}
use Rattle.shared_steps.proofs.TwoKinds.{inverse-whole}
use Rattle.shared_line.proofs.inverse.inverse_32.Statement.{statement}
use Rattle.shared_line.proofs.inverse.inverse_32.Tie as tie

weights-32-requires : tie.Need-weights_32-w-requires
weights-32-requires c κs = search rules

slice-aggregate-first-32 : tie.Need-slice_bounds-first_32-end
slice-aggregate-first-32 c = search rules

slice-aggregate-first-32-2 : tie.Need-slice_bounds-first_32-end-2
slice-aggregate-first-32-2 c = search rules

first-32-requires : tie.Need-first_32-requires
first-32-requires c κs = (adding-none 26 (omega arith) (omega arith) c.before.before.weights_32-w.ensures c.before.before.before.requires.0, refl)

slice-aggregate-second-32 : tie.Need-slice_bounds-second_32-end
slice-aggregate-second-32 c = search rules

slice-aggregate-second-32-2 : tie.Need-slice_bounds-second_32-end-2
slice-aggregate-second-32-2 c = search rules

second-32-requires : tie.Need-second_32-requires
second-32-requires c κs = (adding-none 6 (omega arith) (omega arith) c.before.before.before.before.before.before.weights_32-w.ensures c.before.before.before.before.before.before.before.requires.0, refl)

slice-aggregate-third-32 : tie.Need-slice_bounds-third_32-end
slice-aggregate-third-32 c = search rules

slice-aggregate-third-32-2 : tie.Need-slice_bounds-third_32-end-2
slice-aggregate-third-32-2 c = search rules

third-32-requires : tie.Need-third_32-requires
third-32-requires c κs = (adding-none 2 (omega arith) (omega arith) c.before.before.before.before.before.before.before.before.before.before.weights_32-w.ensures c.before.before.before.before.before.before.before.before.before.before.before.requires.0, refl)

slice-aggregate-places-32 : tie.Need-slice_bounds-places_32-end
slice-aggregate-places-32 c = search rules

slice-aggregate-places-32-2 : tie.Need-slice_bounds-places_32-end-2
slice-aggregate-places-32-2 c = search rules

slice-aggregate-places-32-3 : tie.Need-slice_bounds-places_32-end-3
slice-aggregate-places-32-3 c = search rules

places-32-requires : tie.Need-places_32-requires
places-32-requires c κs = (record { size = shared32.size; first = c.before.before.before.before.before.before.before.before.before.before.before.before.before.first_32.ensures.1; second = c.before.before.before.before.before.before.before.before.before.second_32.ensures.1; third = c.before.before.before.before.before.third_32.ensures.1 }, c.before.before.before.before.before.before.before.before.before.before.before.before.before.before.before.before.before.requires.1)

same_length : tie.Need-shape_of-y
same_length c = c.before.places_32.ensures.long ∙ sym c.before.before.before.before.before.before.before.before.before.before.before.before.before.before.before.before.before.before.before.requires.1

returns : tie.Need-returns
unfolding class_of
returns c =
    let s = c.before.before.before.before.before.before.before.before.before.before.before.before.before.before.before.before.before.before.before.args in
    inverse-whole s.x.now c.before.places_32.ensures
    (joined_is shared32 (used s.back s.x.now) c.before.before.before.before.before.before.before.before.before.before.before.before.before.before.before.first_32.ensures.0 c.before.before.before.before.before.before.before.before.before.before.before.second_32.ensures.0 c.before.before.before.before.before.before.before.third_32.ensures.0)

pub inverse_32_spec : {M : Type 1} → statement M
inverse_32_spec =
    tie.close
    (tie.spec
    weights-32-requires
    slice-aggregate-first-32
    slice-aggregate-first-32-2
    first-32-requires
    slice-aggregate-second-32
    slice-aggregate-second-32-2
    second-32-requires
    slice-aggregate-third-32
    slice-aggregate-third-32-2
    third-32-requires
    slice-aggregate-places-32
    slice-aggregate-places-32-2
    slice-aggregate-places-32-3
    places-32-requires
    same_length
    returns)
