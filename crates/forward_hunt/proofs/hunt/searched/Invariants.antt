use Rattle.std.proofs.Common.{◌≡◌, length}
use Rattle.std.specs.Prelude.{None}
use Rattle.meaning.specs.Forward.{too_large}
use Rattle.layout.proofs.Hunting.{Hunt}
use Rattle.forward_hunt.proofs.hunt.searched.Given as goal

-- every place that the hunt has passed fails the test
abbrev pub invariant-hunt : goal.invariant-hunt
invariant-hunt l = Hunt (too_large l.shape) l.w l.h l.residuals (length l.residuals) 0 l.y × (l.place ≡ None)

abbrev pub invariant-loop-x : goal.invariant-loop-x
invariant-loop-x l = Hunt (too_large l.shape) l.w l.h l.residuals (length l.residuals) l.x l.y × (l.place ≡ None)
