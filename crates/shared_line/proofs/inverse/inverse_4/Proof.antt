-- `inverse::inverse_4` meets its contract. Assumes nothing.
use borrow.Author.Rules.{rules}
use native.Mathlib.Omega.{arith}
use mathlib.Core.Path.{refl, sym, ◌∙◌}
use Rattle.shared_steps.specs.Folds.{class_of}
use Rattle.shared_steps.specs.Lines.{used}
use Rattle.shared_steps.proofs.Sizes.{shared4}
use Rattle.shared_steps.proofs.Adding.{adding-none, nothing, none-summed}
use Rattle.shared_steps.proofs.Classes.{joined_is, class-is}
use Rattle.shared_steps.proofs.TwoKinds.{inverse-whole}
use mathlib.Core.List.{[]}
use Rattle.shared_steps.proofs.Gathering.{front-none}
use Rattle.shared_line.proofs.inverse.inverse_4.Statement.{statement}
use Rattle.shared_line.proofs.inverse.inverse_4.Tie as tie

weights-4-requires : tie.Need-weights_4-w-requires
weights-4-requires c κs = search rules

slice-aggregate-first-4 : tie.Need-slice_bounds-first_4-end
slice-aggregate-first-4 c = search rules

slice-aggregate-first-4-2 : tie.Need-slice_bounds-first_4-end-2
slice-aggregate-first-4-2 c = search rules

first-4-requires : tie.Need-first_4-requires
first-4-requires c κs = (adding-none 3 (omega arith) (omega arith) c.before.before.weights_4-w.ensures c.before.before.before.requires.0, refl)

slice-aggregate-second-4 : tie.Need-slice_bounds-second_4-end
slice-aggregate-second-4 c = search rules

slice-aggregate-second-4-2 : tie.Need-slice_bounds-second_4-end-2
slice-aggregate-second-4-2 c = search rules

second-4-requires : tie.Need-second_4-requires
second-4-requires c κs = (adding-none 1 (omega arith) (omega arith) c.before.before.before.before.before.before.weights_4-w.ensures c.before.before.before.before.before.before.before.requires.0, refl)

slice-aggregate-spread : tie.Need-slice_bounds-spread-end
slice-aggregate-spread c = search rules

slice-aggregate-spread-2 : tie.Need-slice_bounds-spread-end-2
slice-aggregate-spread-2 c = search rules

slice-aggregate-spread-3 : tie.Need-slice_bounds-spread-end-3
slice-aggregate-spread-3 c = search rules

spread-requires : tie.Need-spread-requires
spread-requires c κs = ((omega arith, omega arith), (record { size = shared4.size; first = c.before.before.before.before.before.before.before.before.before.first_4.ensures.1; second = c.before.before.before.before.before.second_4.ensures.1; third = nothing 1 94371840 }, front-none _ c.before.before.before.before.before.before.before.before.before.before.before.before.before.requires.1))

same_length : tie.Need-shape_of-y
same_length c = c.before.spread.ensures.long ∙ sym c.before.before.before.before.before.before.before.before.before.before.before.before.before.before.before.requires.1

returns : tie.Need-returns
unfolding class_of
returns c =
    let s = c.before.before.before.before.before.before.before.before.before.before.before.before.before.before.before.args in
    inverse-whole s.x.now c.before.spread.ensures
    (joined_is shared4 (used s.back s.x.now) c.before.before.before.before.before.before.before.before.before.before.before.first_4.ensures.0 c.before.before.before.before.before.before.before.second_4.ensures.0 (class-is {n = 4} {p = 3} {q = 3} {c = 3} {rows = []} tt (none-summed 4 1 1 (used s.back s.x.now))))

pub inverse_4_spec : {M : Type 1} → statement M
inverse_4_spec =
    tie.close
    (tie.spec
    weights-4-requires
    slice-aggregate-first-4
    slice-aggregate-first-4-2
    first-4-requires
    slice-aggregate-second-4
    slice-aggregate-second-4-2
    second-4-requires
    slice-aggregate-spread
    slice-aggregate-spread-2
    slice-aggregate-spread-3
    spread-requires
    same_length
    returns)
