-- `forward::forward_32` meets its contract. Assumes nothing.
use borrow.Author.Rules.{rules}
use native.Mathlib.Omega.{arith}
use mathlib.Core.Path.{sym, ◌∙◌}
use Rattle.shared_steps.specs.Folds.{class_of}
use Rattle.shared_steps.proofs.Sizes.{shared32}
use Rattle.shared_steps.proofs.Gathering.{gather_none}
use Rattle.shared_steps.proofs.Writing.{and_then, of-class, all-rows, ready}
use Rattle.shared_line.proofs.forward.forward_32.Statement.{statement}
use Rattle.shared_line.proofs.forward.forward_32.Tie as tie

weights-32-requires : tie.Need-weights_32-w-requires
weights-32-requires c κs = search rules

slice-aggregate-leading-inputs-32 : tie.Need-slice_bounds-leading_inputs_32-end
slice-aggregate-leading-inputs-32 c = search rules

leading-inputs-32-requires : tie.Need-leading_inputs_32-requires
leading-inputs-32-requires c κs = (c.before.before.requires.0, gather_none {n = 32} {p = 5} {q = 13} {c = 1} _ shared32.size)

slice-aggregate-first-even-32 : tie.Need-slice_bounds-first_even_32-end
slice-aggregate-first-even-32 c = search rules

slice-aggregate-first-even-32-2 : tie.Need-slice_bounds-first_even_32-end-2
slice-aggregate-first-even-32-2 c = search rules

first-even-32-requires : tie.Need-first_even_32-requires
first-even-32-requires c κs = ready (omega arith) (omega arith) (omega arith) c.before.before.before.before.before.before.weights_32-w.ensures c.before.before.before.before.leading_inputs_32.ensures c.before.before.before.before.before.before.before.requires.1

slice-aggregate-gather : tie.Need-slice_bounds-gather-end
slice-aggregate-gather c = search rules

gather-requires : tie.Need-gather-requires
gather-requires c κs = (c.before.before.before.before.before.before.before.before.before.before.requires.0, ((omega arith, omega arith), gather_none {n = 32} {p = 5} {q = 13} {c = 2} _ shared32.size))

slice-aggregate-second-32 : tie.Need-slice_bounds-second_32-end
slice-aggregate-second-32 c = search rules

slice-aggregate-second-32-2 : tie.Need-slice_bounds-second_32-end-2
slice-aggregate-second-32-2 c = search rules

second-32-requires : tie.Need-second_32-requires
second-32-requires c κs = ready (omega arith) (omega arith) (omega arith) c.before.before.before.before.before.before.before.before.before.before.before.before.before.before.weights_32-w.ensures c.before.before.before.before.gather.ensures c.before.before.before.before.before.before.before.first_even_32.ensures.1.room

slice-aggregate-gather-2 : tie.Need-slice_bounds-gather-end-2
slice-aggregate-gather-2 c = search rules

gather-requires-2 : tie.Need-gather-requires-2
gather-requires-2 c κs = (c.before.before.before.before.before.before.before.before.before.before.before.before.before.before.before.before.before.before.requires.0, ((omega arith, omega arith), gather_none {n = 32} {p = 5} {q = 13} {c = 3} _ shared32.size))

slice-aggregate-third-32 : tie.Need-slice_bounds-third_32-end
slice-aggregate-third-32 c = search rules

slice-aggregate-third-32-2 : tie.Need-slice_bounds-third_32-end-2
slice-aggregate-third-32-2 c = search rules

third-32-requires : tie.Need-third_32-requires
third-32-requires c κs = ready (omega arith) (omega arith) (omega arith) c.before.before.before.before.before.before.before.before.before.before.before.before.before.before.before.before.before.before.before.before.before.before.weights_32-w.ensures c.before.before.before.before.gather-2.ensures c.before.before.before.before.before.before.before.second_32.ensures.1.room

slice-aggregate-first-odd-32 : tie.Need-slice_bounds-first_odd_32-end
slice-aggregate-first-odd-32 c = search rules

slice-aggregate-first-odd-32-2 : tie.Need-slice_bounds-first_odd_32-end-2
slice-aggregate-first-odd-32-2 c = omega (arith, c.before.before.before.before.before.before.before.before.before.before.before.before.before.before.before.before.before.before.before.before.before.before.before.before.leading_inputs_32.ensures.long)

first-odd-32-requires : tie.Need-first_odd_32-requires
first-odd-32-requires c κs = ready (omega arith) (omega arith) (omega arith) c.before.before.before.before.before.before.before.before.before.before.before.before.before.before.before.before.before.before.before.before.before.before.before.before.before.before.before.weights_32-w.ensures c.before.before.before.before.before.before.before.before.before.before.before.before.before.before.before.before.before.before.before.before.before.before.before.before.before.leading_inputs_32.ensures c.before.before.before.before.third_32.ensures.1.room

same_length : tie.Need-shape_of-y
same_length c = c.before.first_odd_32.ensures.1.room ∙ sym c.before.before.before.before.before.before.before.before.before.before.before.before.before.before.before.before.before.before.before.before.before.before.before.before.before.before.before.before.before.before.requires.1

returns : tie.Need-returns
unfolding class_of
returns c =
    let s = c.before.before.before.before.before.before.before.before.before.before.before.before.before.before.before.before.before.before.before.before.before.before.before.before.before.before.before.before.before.before.args in
    all-rows s.back s.x.now c.before.before.before.before.before.before.before.before.before.before.before.before.before.before.before.before.before.before.before.before.before.before.before.before.before.before.before.before.before.before.requires.1 tt
    (and_then (and_then (and_then (of-class 32 5 13 1 s.back s.x.now shared32.first c.before.before.before.before.before.before.before.before.before.before.before.before.before.before.before.before.before.before.before.before.before.before.before.before.before.before.before.leading_inputs_32.ensures tt c.before.before.before.before.before.before.before.before.before.before.before.before.before.before.before.before.before.before.before.before.before.before.first_even_32.ensures.0)
    (of-class 32 5 13 2 s.back s.x.now shared32.second c.before.before.before.before.before.before.before.before.before.before.before.before.before.before.before.before.before.before.before.gather.ensures tt c.before.before.before.before.before.before.before.before.before.before.before.before.before.before.second_32.ensures.0))
    (of-class 32 5 13 3 s.back s.x.now shared32.third c.before.before.before.before.before.before.before.before.before.before.before.gather-2.ensures tt c.before.before.before.before.before.before.third_32.ensures.0))
    (of-class 32 5 13 1 s.back s.x.now shared32.first c.before.before.before.before.before.before.before.before.before.before.before.before.before.before.before.before.before.before.before.before.before.before.before.before.before.before.before.leading_inputs_32.ensures tt c.before.first_odd_32.ensures.0))

pub forward_32_spec : {M : Type 1} → statement M
forward_32_spec =
    tie.close
    (tie.spec
    weights-32-requires
    slice-aggregate-leading-inputs-32
    leading-inputs-32-requires
    slice-aggregate-first-even-32
    slice-aggregate-first-even-32-2
    first-even-32-requires
    slice-aggregate-gather
    gather-requires
    slice-aggregate-second-32
    slice-aggregate-second-32-2
    second-32-requires
    slice-aggregate-gather-2
    gather-requires-2
    slice-aggregate-third-32
    slice-aggregate-third-32-2
    third-32-requires
    slice-aggregate-first-odd-32
    slice-aggregate-first-odd-32-2
    first-odd-32-requires
    same_length
    returns)
