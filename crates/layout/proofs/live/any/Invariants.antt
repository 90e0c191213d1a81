-- Where nothing was found, there is nothing before i. Assumes nothing.
use Rattle.std.proofs.Common.{◌≡◌, false}
use Rattle.layout.specs.Live.{Clear}
use Rattle.layout.proofs.live.any.Given as goal

abbrev pub invariant-loop-i : goal.invariant-loop-i
invariant-loop-i l = l.found ≡ false → Clear l.c l.a l.i
