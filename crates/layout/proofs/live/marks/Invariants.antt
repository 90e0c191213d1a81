-- A column without a mark has nothing in the rows before y. Assumes nothing.
use Rattle.layout.specs.Live.{Unseen}
use Rattle.layout.proofs.live.marks.Given as goal

abbrev pub invariant-loop-y : goal.invariant-loop-y
invariant-loop-y l = Unseen l.w l.y l.c l.seen
