use Rattle.algebra.specs.Lists.{at}
use Rattle.algebra.proofs.Lists.{Filled}
use Rattle.forward_stage.proofs.place.narrow.Given as goal

-- the numbers before x are written
abbrev pub invariant-loop-x : goal.invariant-loop-x
invariant-loop-x l = Filled 0 l.x l.part l.initial.part (at l.e)
