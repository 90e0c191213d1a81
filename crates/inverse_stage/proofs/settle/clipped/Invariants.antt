use Rattle.algebra.specs.Clip.{clip}
use Rattle.algebra.specs.Lists.{at}
use Rattle.algebra.proofs.Lists.{Filled}
use Rattle.meaning.specs.Plan.{short_range}
use Rattle.inverse_stage.proofs.settle.clipped.Given as goal

-- the numbers before x are clipped
abbrev pub invariant-loop-x : goal.invariant-loop-x
invariant-loop-x l = Filled 0 l.x l.m l.initial.m (λ x. clip short_range (at l.e x))
