-- `inverse::read` meets its contract. Assumes nothing.
use Rattle.std.proofs.Common.{arith, ◌≤◌, nat_abs, below_more}
use mir.Syntax.{w16}
use Rattle.algebra.specs.Lists.{at}
use Rattle.algebra.proofs.Order.{in-fits}
use Rattle.meaning.proofs.Small.{within-places}
use Rattle.dct2_line.proofs.inverse.read.Goals as goal

pub loop-i-preserved : goal.loop-i-preserved
loop-i-preserved c =
    below_more (λ k. nat_abs (at c.args.x.now k) ≤ 32768) c.loop-i.i c.loop-i.invariant
    (in-fits {w = w16} {z = at c.args.x.now c.loop-i.i} (record { sfits = c.z-1.given })).within

pub returns : goal.returns
returns c = within-places 32768 c.args.x.now (λ k h. c.loop-i.invariant k (omega arith))
