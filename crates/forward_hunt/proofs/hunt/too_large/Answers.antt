use Rattle.std.proofs.Common.{arith}
use Rattle.meaning.proofs.Cases.{depth-cases}
use Rattle.forward_hunt.proofs.hunt.too_large.Goals as goal

pub power-requires : goal.power-requires
power-requires c = omega (arith, depth-cases c.args.depth c.requires)
