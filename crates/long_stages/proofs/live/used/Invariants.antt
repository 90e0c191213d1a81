-- From k on there is nothing. Assumes nothing.
use lib.ListN.{length}
use Rattle.layout.specs.Live.{Clear}
use Rattle.long_stages.proofs.live.used.Given as goal

abbrev pub invariant-loop-k : goal.invariant-loop-k
invariant-loop-k l = Clear l.c l.k (length l.c)
