use Rattle.std.proofs.Common.{◌≡◌, length}
use Rattle.clipping.specs.Clips.{Clips}
use Rattle.clipping.proofs.clip_rows.Given as goal

abbrev pub invariant-loop-y : goal.invariant-loop-y
invariant-loop-y l = (length l.room ≡ length l.initial.room) × Clips l.c l.w l.columns l.y l.room
