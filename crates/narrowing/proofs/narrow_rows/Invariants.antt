use Rattle.std.proofs.Common.{length}
use Rattle.narrowing.specs.Narrow.{Narrowed}
use Rattle.narrowing.proofs.narrow_rows.Given as goal

abbrev pub invariant-loop-y : goal.invariant-loop-y
invariant-loop-y l = Narrowed (length l.initial.room) l.c l.w l.columns l.y l.broad l.room
