-- `forward::forward_16` meets its contract: the line of 8 points over the sums, and one step. Assumes nothing. Made by crates/dct2_line/make; do not edit.
use Rattle.std.proofs.Common.{arith, refl}
use Rattle.halves.proofs.Halved.{halves-16}
use Rattle.dct2_line.proofs.ForwardStep.{sums-small, weave-given}
use Rattle.dct2_line.proofs.forward.forward_16.Goals as goal

pub fold-requires : goal.fold-requires
fold-requires c = (c.requires.0, (refl, refl))

pub forward_8-requires : goal.forward_8-requires
forward_8-requires c = (sums-small 8 c.args.x.now _ (omega arith) c.requires.0 c.fold.ensures.0, refl)

pub weave-requires : goal.weave-requires
weave-requires c = weave-given (omega arith) c.requires.0 c.requires.1 c.fold.ensures c.forward_8.ensures c.odd_16-t.ensures halves-16
