-- Every place that the hunt has passed fails the test. Assumes nothing.
use mathlib.Core.Path.{◌≡◌}
use lib.ListN.{length}
use Rattle.std.specs.Prelude.{None}
use Rattle.layout.proofs.Inside.{outside_of}
use Rattle.layout.proofs.Hunting.{Hunt}
use Rattle.long_stages.proofs.hunt.first_outside.Given as goal

abbrev pub invariant-loop-x : goal.invariant-loop-x
invariant-loop-x l = Hunt (outside_of l.w l.columns l.rows) l.w l.h l.c (length l.c) l.x l.y × (l.place ≡ None)

abbrev pub invariant-hunt : goal.invariant-hunt
invariant-hunt l = Hunt (outside_of l.w l.columns l.rows) l.w l.h l.c (length l.c) 0 l.y × (l.place ≡ None)
