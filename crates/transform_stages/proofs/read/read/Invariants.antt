-- The rows before y are there, and 0 below them. Assumes nothing.
use Rattle.transform_stages.specs.Work.{RoomRead}
use Rattle.transform_stages.proofs.read.read.Given as goal

abbrev pub invariant-loop-y : goal.invariant-loop-y
invariant-loop-y l = RoomRead l.c l.w l.columns l.y l.room
