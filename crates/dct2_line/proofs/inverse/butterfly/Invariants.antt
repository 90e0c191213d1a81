-- j places from either end are written. Assumes nothing.
use Rattle.dct2_line.specs.Lines.{Joined}
use Rattle.dct2_line.proofs.inverse.butterfly.Given as goal

abbrev pub invariant-loop-j : goal.invariant-loop-j
invariant-loop-j l = Joined l.j l.h l.e l.o l.out
