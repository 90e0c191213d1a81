-- What the loop of `put_residuals` has written.
use Rattle.std.proofs.Common.{◌*◌, take}
use Rattle.file_text.specs.Text.{spaced}
use Rattle.file_text.specs.Wrote.{Wrote}
use Rattle.file_text.proofs.text.put_residuals.Given as goal

abbrev pub invariant-loop-z : goal.invariant-loop-z
invariant-loop-z l = Wrote (spaced (take l.z-index l.zs)) (12 * l.z-index) l.at l.initial.out l.out l.end
