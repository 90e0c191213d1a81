-- `arith::mac` meets its contract. Assumes nothing.
use Rattle.algebra.proofs.Machine.{arg≤, mul, add, val}
use Rattle.shared_steps.proofs.arith.mac.Goals as goal

pub returns : goal.returns
returns c = val (add (arg≤ c.ranges.a c.requires.0) (mul (arg≤ c.ranges.w c.requires.1.0) (arg≤ c.ranges.v c.requires.1.1) tt) tt)
