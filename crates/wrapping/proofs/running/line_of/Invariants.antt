-- The sums before j are written. Assumes nothing.
use Rattle.std.proofs.Common.{length}
use Rattle.algebra.specs.Sum.{sum}
use Rattle.algebra.proofs.Lists.{Filled}
use Rattle.wrapping.specs.Feed.{product_at}
use Rattle.wrapping.proofs.running.line_of.Given as goal

abbrev pub invariant-loop-j : goal.invariant-loop-j
invariant-loop-j l = Filled 0 l.j l.y l.initial.y (λ j. sum (length l.x) (product_at l.t l.apart j l.x))
