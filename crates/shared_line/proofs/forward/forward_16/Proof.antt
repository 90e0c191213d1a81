-- `forward::forward_16` meets its contract. Assumes nothing.
use borrow.Author.Rules.{rules}
use native.Mathlib.Omega.{arith}
use mathlib.Core.Path.{sym, ◌∙◌}
use Rattle.shared_steps.specs.Folds.{class_of}
use Rattle.shared_steps.proofs.Sizes.{shared16}
use Rattle.shared_steps.proofs.Gathering.{gather_none}
use Rattle.shared_steps.proofs.Writing.{and_then, of-class, all-rows, ready}
use Rattle.shared_line.proofs.forward.forward_16.Statement.{statement}
use Rattle.shared_line.proofs.forward.forward_16.Tie as tie

weights-16-requires : tie.Need-weights_16-w-requires
weights-16-requires c κs = search rules

slice-aggregate-gather : tie.Need-slice_bounds-gather-end
slice-aggregate-gather c = search rules

gather-requires : tie.Need-gather-requires
gather-requires c κs = (c.before.before.requires.0, ((omega arith, omega arith), gather_none {n = 16} {p = 3} {q = 11} {c = 1} _ shared16.size))

slice-aggregate-gather-2 : tie.Need-slice_bounds-gather-end-2
slice-aggregate-gather-2 c = search rules

gather-requires-2 : tie.Need-gather-requires-2
gather-requires-2 c κs = (c.before.before.before.before.before.requires.0, ((omega arith, omega arith), c.before.before.gather.ensures))

slice-aggregate-first-16 : tie.Need-slice_bounds-first_16-end
slice-aggregate-first-16 c = search rules

slice-aggregate-first-16-2 : tie.Need-slice_bounds-first_16-end-2
slice-aggregate-first-16-2 c = search rules

first-16-requires : tie.Need-first_16-requires
first-16-requires c κs = ready (omega arith) (omega arith) (omega arith) c.before.before.before.before.before.before.before.before.before.weights_16-w.ensures c.before.before.before.before.gather-2.ensures c.before.before.before.before.before.before.before.before.before.before.requires.1

slice-aggregate-gather-3 : tie.Need-slice_bounds-gather-end-3
slice-aggregate-gather-3 c = search rules

gather-requires-3 : tie.Need-gather-requires-3
gather-requires-3 c κs = (c.before.before.before.before.before.before.before.before.before.before.before.before.before.requires.0, ((omega arith, omega arith), gather_none {n = 16} {p = 3} {q = 11} {c = 2} _ shared16.size))

slice-aggregate-second-16 : tie.Need-slice_bounds-second_16-end
slice-aggregate-second-16 c = search rules

slice-aggregate-second-16-2 : tie.Need-slice_bounds-second_16-end-2
slice-aggregate-second-16-2 c = search rules

second-16-requires : tie.Need-second_16-requires
second-16-requires c κs = ready (omega arith) (omega arith) (omega arith) c.before.before.before.before.before.before.before.before.before.before.before.before.before.before.before.before.before.weights_16-w.ensures c.before.before.before.before.gather-3.ensures c.before.before.before.before.before.before.before.first_16.ensures.1.room

slice-aggregate-gather-4 : tie.Need-slice_bounds-gather-end-4
slice-aggregate-gather-4 c = search rules

gather-requires-4 : tie.Need-gather-requires-4
gather-requires-4 c κs = (c.before.before.before.before.before.before.before.before.before.before.before.before.before.before.before.before.before.before.before.before.before.requires.0, ((omega arith, omega arith), gather_none {n = 16} {p = 3} {q = 11} {c = 3} _ shared16.size))

slice-aggregate-third-16 : tie.Need-slice_bounds-third_16-end
slice-aggregate-third-16 c = search rules

slice-aggregate-third-16-2 : tie.Need-slice_bounds-third_16-end-2
slice-aggregate-third-16-2 c = search rules

third-16-requires : tie.Need-third_16-requires
third-16-requires c κs = ready (omega arith) (omega arith) (omega arith) c.before.before.before.before.before.before.before.before.before.before.before.before.before.before.before.before.before.before.before.before.before.before.before.before.before.weights_16-w.ensures c.before.before.before.before.gather-4.ensures c.before.before.before.before.before.before.before.second_16.ensures.1.room

same_length : tie.Need-shape_of-y
same_length c = c.before.third_16.ensures.1.room ∙ sym c.before.before.before.before.before.before.before.before.before.before.before.before.before.before.before.before.before.before.before.before.before.before.before.before.before.before.before.before.requires.1

returns : tie.Need-returns
unfolding class_of
returns c =
    let s = c.before.before.before.before.before.before.before.before.before.before.before.before.before.before.before.before.before.before.before.before.before.before.before.before.before.before.before.before.args in
    all-rows s.back s.x.now c.before.before.before.before.before.before.before.before.before.before.before.before.before.before.before.before.before.before.before.before.before.before.before.before.before.before.before.before.requires.1 tt
    (and_then (and_then (of-class 16 3 11 1 s.back s.x.now shared16.first c.before.before.before.before.before.before.before.before.before.before.before.before.before.before.before.before.before.before.before.before.before.before.gather-2.ensures tt c.before.before.before.before.before.before.before.before.before.before.before.before.before.before.before.before.before.first_16.ensures.0)
    (of-class 16 3 11 2 s.back s.x.now shared16.second c.before.before.before.before.before.before.before.before.before.before.before.before.before.before.gather-3.ensures tt c.before.before.before.before.before.before.before.before.before.second_16.ensures.0))
    (of-class 16 3 11 3 s.back s.x.now shared16.third c.before.before.before.before.before.before.gather-4.ensures tt c.before.third_16.ensures.0))

pub forward_16_spec : {M : Type 1} → statement M
forward_16_spec =
    tie.close
    (tie.spec
    weights-16-requires
    slice-aggregate-gather
    gather-requires
    slice-aggregate-gather-2
    gather-requires-2
    slice-aggregate-first-16
    slice-aggregate-first-16-2
    first-16-requires
    slice-aggregate-gather-3
    gather-requires-3
    slice-aggregate-second-16
    slice-aggregate-second-16-2
    second-16-requires
    slice-aggregate-gather-4
    gather-requires-4
    slice-aggregate-third-16
    slice-aggregate-third-16-2
    third-16-requires
    same_length
    returns)
