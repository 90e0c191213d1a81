-- `forward::forward_4` meets its contract. Assumes nothing.
use borrow.Author.Rules.{rules}
use native.Mathlib.Omega.{arith}
use mathlib.Core.Path.{sym, ◌∙◌}
use Rattle.shared_steps.specs.Folds.{class_of}
use Rattle.shared_steps.proofs.Sizes.{shared4}
use Rattle.shared_steps.proofs.Gathering.{gather_none}
use Rattle.shared_steps.proofs.Writing.{and_then, of-class, all-rows, ready}
use Rattle.shared_line.proofs.forward.forward_4.Statement.{statement}
use Rattle.shared_line.proofs.forward.forward_4.Tie as tie

weights-4-requires : tie.Need-weights_4-w-requires
weights-4-requires c κs = search rules

slice-aggregate-gather : tie.Need-slice_bounds-gather-end
slice-aggregate-gather c = search rules

gather-requires : tie.Need-gather-requires
gather-requires c κs = (c.before.before.requires.0, ((omega arith, omega arith), gather_none {n = 4} {p = 3} {q = 3} {c = 1} _ shared4.size))

slice-aggregate-first-4 : tie.Need-slice_bounds-first_4-end
slice-aggregate-first-4 c = search rules

slice-aggregate-first-4-2 : tie.Need-slice_bounds-first_4-end-2
slice-aggregate-first-4-2 c = search rules

first-4-requires : tie.Need-first_4-requires
first-4-requires c κs = ready (omega arith) (omega arith) (omega arith) c.before.before.before.before.before.before.weights_4-w.ensures c.before.before.before.before.gather.ensures c.before.before.before.before.before.before.before.requires.1

slice-aggregate-gather-2 : tie.Need-slice_bounds-gather-end-2
slice-aggregate-gather-2 c = search rules

gather-requires-2 : tie.Need-gather-requires-2
gather-requires-2 c κs = (c.before.before.before.before.before.before.before.before.before.before.requires.0, ((omega arith, omega arith), gather_none {n = 4} {p = 3} {q = 3} {c = 2} _ shared4.size))

slice-aggregate-second-4 : tie.Need-slice_bounds-second_4-end
slice-aggregate-second-4 c = search rules

slice-aggregate-second-4-2 : tie.Need-slice_bounds-second_4-end-2
slice-aggregate-second-4-2 c = search rules

second-4-requires : tie.Need-second_4-requires
second-4-requires c κs = ready (omega arith) (omega arith) (omega arith) c.before.before.before.before.before.before.before.before.before.before.before.before.before.before.weights_4-w.ensures c.before.before.before.before.gather-2.ensures c.before.before.before.before.before.before.before.first_4.ensures.1.room

same_length : tie.Need-shape_of-y
same_length c = c.before.second_4.ensures.1.room ∙ sym c.before.before.before.before.before.before.before.before.before.before.before.before.before.before.before.before.before.requires.1

returns : tie.Need-returns
unfolding class_of
returns c =
    let s = c.before.before.before.before.before.before.before.before.before.before.before.before.before.before.before.before.before.args in
    all-rows s.back s.x.now c.before.before.before.before.before.before.before.before.before.before.before.before.before.before.before.before.before.requires.1 tt
    (and_then (of-class 4 3 3 1 s.back s.x.now shared4.first c.before.before.before.before.before.before.before.before.before.before.before.before.before.before.gather.ensures tt c.before.before.before.before.before.before.before.before.before.first_4.ensures.0)
    (of-class 4 3 3 2 s.back s.x.now shared4.second c.before.before.before.before.before.before.gather-2.ensures tt c.before.second_4.ensures.0))

pub forward_4_spec : {M : Type 1} → statement M
forward_4_spec =
    tie.close
    (tie.spec
    weights-4-requires
    slice-aggregate-gather
    gather-requires
    slice-aggregate-first-4
    slice-aggregate-first-4-2
    first-4-requires
    slice-aggregate-gather-2
    gather-requires-2
    slice-aggregate-second-4
    slice-aggregate-second-4-2
    second-4-requires
    same_length
    returns)
