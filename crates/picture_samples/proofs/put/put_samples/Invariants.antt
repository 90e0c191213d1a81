-- The samples of the residuals so far are written.
use Rattle.std.proofs.Common.{◌*◌, take}
use Rattle.file_text.specs.Wrote.{Wrote}
use Rattle.picture_samples.specs.Samples.{samples}
use Rattle.picture_samples.proofs.put.put_samples.Given as goal

abbrev pub invariant-loop-z : goal.invariant-loop-z
invariant-loop-z l = Wrote (samples (take l.z-index l.residuals)) (2 * l.z-index) l.at l.initial.file l.file l.p
