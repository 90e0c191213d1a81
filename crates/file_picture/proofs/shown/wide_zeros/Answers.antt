-- Each number is 0. Assumes nothing.
use Rattle.std.proofs.Common.{refl}
use Rattle.algebra.proofs.Lists.{zeros-at}
use Rattle.file_picture.proofs.shown.wide_zeros.Goals as goal

pub returns : goal.returns
returns c = (refl, zeros-at 1024)
