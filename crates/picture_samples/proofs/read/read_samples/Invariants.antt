-- The residuals before i are there, and those from i on are to come.
use Rattle.std.proofs.Common.{◌≡◌, ◌+◌, ◌++◌, take, drop}
use Rattle.picture_samples.specs.Samples.{residuals}
use Rattle.picture_samples.proofs.read.read_samples.Given as goal

abbrev pub invariant-loop-i : goal.invariant-loop-i
invariant-loop-i l = take l.i l.out ++ residuals (drop (l.i + l.i) l.samples) ≡ residuals l.samples
