-- `inverse::inverse_16` meets its contract. Assumes nothing.
use borrow.Author.Rules.{rules}
use native.Mathlib.Omega.{arith}
use mathlib.Core.Path.{refl, sym, ◌∙◌}
use Rattle.shared_steps.specs.Folds.{class_of}
use Rattle.shared_steps.specs.Lines.{used}
use Rattle.shared_steps.proofs.Sizes.{shared16}
use Rattle.shared_steps.proofs.Adding.{adding-none}
use Rattle.shared_steps.proofs.Classes.{joined_is}
use Rattle.shared_steps.proofs.TwoKinds.{inverse-whole}
use Rattle.shared_line.proofs.inverse.inverse_16.Statement.{statement}
use Rattle.shared_line.proofs.inverse.inverse_16.Tie as tie

weights-16-requires : tie.Need-weights_16-w-requires
weights-16-requires c κs = search rules

slice-aggregate-first-16 : tie.Need-slice_bounds-first_16-end
slice-aggregate-first-16 c = search rules

slice-aggregate-first-16-2 : tie.Need-slice_bounds-first_16-end-2
slice-aggregate-first-16-2 c = search rules

first-16-requires : tie.Need-first_16-requires
first-16-requires c κs = (adding-none 11 (omega arith) (omega arith) c.before.before.weights_16-w.ensures c.before.before.before.requires.0, refl)

slice-aggregate-second-16 : tie.Need-slice_bounds-second_16-end
slice-aggregate-second-16 c = search rules

slice-aggregate-second-16-2 : tie.Need-slice_bounds-second_16-end-2
slice-aggregate-second-16-2 c = search rules

second-16-requires : tie.Need-second_16-requires
second-16-requires c κs = (adding-none 5 (omega arith) (omega arith) c.before.before.before.before.before.before.weights_16-w.ensures c.before.before.before.before.before.before.before.requires.0, refl)

slice-aggregate-third-16 : tie.Need-slice_bounds-third_16-end
slice-aggregate-third-16 c = search rules

slice-aggregate-third-16-2 : tie.Need-slice_bounds-third_16-end-2
slice-aggregate-third-16-2 c = search rules

third-16-requires : tie.Need-third_16-requires
third-16-requires c κs = (adding-none 1 (omega arith) (omega arith) c.before.before.before.before.before.before.before.before.before.before.weights_16-w.ensures c.before.before.before.before.before.before.before.before.before.before.before.requires.0, refl)

slice-aggregate-places-16 : tie.Need-slice_bounds-places_16-end
slice-aggregate-places-16 c = search rules

slice-aggregate-places-16-2 : tie.Need-slice_bounds-places_16-end-2
slice-aggregate-places-16-2 c = search rules

slice-aggregate-places-16-3 : tie.Need-slice_bounds-places_16-end-3
slice-aggregate-places-16-3 c = search rules

places-16-requires : tie.Need-places_16-requires
places-16-requires c κs = (record { size = shared16.size; first = c.before.before.before.before.before.before.before.before.before.before.before.before.before.first_16.ensures.1; second = c.before.before.before.before.before.before.before.before.before.second_16.ensures.1; third = c.before.before.before.before.before.third_16.ensures.1 }, c.before.before.before.before.before.before.before.before.before.before.before.before.before.before.before.before.before.requires.1)

same_length : tie.Need-shape_of-y
same_length c = c.before.places_16.ensures.long ∙ sym c.before.before.before.before.before.before.before.before.before.before.before.before.before.before.before.before.before.before.before.requires.1

returns : tie.Need-returns
unfolding class_of
returns c =
    let s = c.before.before.before.before.before.before.before.before.before.before.before.before.before.before.before.before.before.before.before.args in
    inverse-whole s.x.now c.before.places_16.ensures
    (joined_is shared16 (used s.back s.x.now) c.before.before.before.before.before.before.before.before.before.before.before.before.before.before.before.first_16.ensures.0 c.before.before.before.before.before.before.before.before.before.before.before.second_16.ensures.0 c.before.before.before.before.before.before.before.third_16.ensures.0)

pub inverse_16_spec : {M : Type 1} → statement M
inverse_16_spec =
    tie.close
    (tie.spec
    weights-16-requires
    slice-aggregate-first-16
    slice-aggregate-first-16-2
    first-16-requires
    slice-aggregate-second-16
    slice-aggregate-second-16-2
    second-16-requires
    slice-aggregate-third-16
    slice-aggregate-third-16-2
    third-16-requires
    slice-aggregate-places-16
    slice-aggregate-places-16-2
    slice-aggregate-places-16-3
    places-16-requires
    same_length
    returns)
