-- The places before i hold the number. Assumes nothing.
use Rattle.algebra.proofs.Lists.{Filled}
use Rattle.transform_line.proofs.stage.fill.Given as goal

abbrev pub invariant-loop-i : goal.invariant-loop-i
invariant-loop-i l = Filled 0 l.i l.r l.initial.r (λ _. l.v)
