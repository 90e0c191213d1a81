-- The places before j of both are written. Assumes nothing.
use Rattle.std.proofs.Common.{◌+◌}
use Rattle.algebra.specs.Lists.{at}
use Rattle.algebra.proofs.Lists.{Filled}
use Rattle.halves.specs.Halves.{end_sums, end_differences}
use Rattle.dct2_line.proofs.forward.fold.Given as goal

abbrev pub invariant-loop-j : goal.invariant-loop-j
invariant-loop-j l =
    Filled 0 l.j l.s l.initial.s (end_sums (l.h + l.h) (at l.x)) × Filled 0 l.j l.d l.initial.d (end_differences (l.h + l.h) (at l.x))
