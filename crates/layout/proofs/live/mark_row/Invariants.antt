-- The columns before x are marked. Assumes nothing.
use Rattle.layout.proofs.Looking.{Marked}
use Rattle.layout.proofs.live.mark_row.Given as goal

abbrev pub invariant-loop-x : goal.invariant-loop-x
invariant-loop-x l = Marked l.o l.x l.c l.seen l.initial.seen
