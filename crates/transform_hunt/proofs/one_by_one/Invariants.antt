-- No number before row y is refused. Assumes nothing.
use Rattle.transform_hunt.proofs.Hunting.{NoneTo}
use Rattle.transform_hunt.proofs.one_by_one.Given as goal

abbrev pub invariant-loop-y : goal.invariant-loop-y
invariant-loop-y l = NoneTo l.w l.columns l.rows l.reach l.c l.y
