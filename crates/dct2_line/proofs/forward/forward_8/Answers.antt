-- `forward::forward_8` meets its contract: the line of 4 points over the sums, and one step. Assumes nothing.
use Rattle.std.proofs.Common.{arith, refl}
use Rattle.halves.proofs.Halved.{halves-8}
use Rattle.dct2_line.proofs.ForwardStep.{sums-small, weave-given}
use Rattle.dct2_line.proofs.forward.forward_8.Goals as goal

pub fold-requires : goal.fold-requires
fold-requires c = (c.requires.0, (refl, refl))

pub forward_4-requires : goal.forward_4-requires
forward_4-requires c = (sums-small 4 c.args.x.now _ (omega arith) c.requires.0 c.fold.ensures.0, refl)

pub weave-requires : goal.weave-requires
weave-requires c = weave-given (omega arith) c.requires.0 c.requires.1 c.fold.ensures c.forward_4.ensures c.odd_8-t.ensures halves-8
