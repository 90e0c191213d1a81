use Rattle.std.proofs.Common.{◌≡◌, length}
use Rattle.std.specs.Prelude.{None}
use Rattle.layout.proofs.Inside.{outside_of}
use Rattle.layout.proofs.Hunting.{Hunt}
use Rattle.inverse_hunt.proofs.hunt.searched.Given as goal

-- every place that the hunt has passed fails the test
abbrev pub invariant-hunt : goal.invariant-hunt
invariant-hunt l = Hunt (outside_of l.w l.columns l.rows) l.w l.h l.c (length l.c) 0 l.y × (l.place ≡ None)

abbrev pub invariant-loop-x : goal.invariant-loop-x
invariant-loop-x l = Hunt (outside_of l.w l.columns l.rows) l.w l.h l.c (length l.c) l.x l.y × (l.place ≡ None)
