use Rattle.std.proofs.Common.{◌≡◌}
use Rattle.inverse_stage.specs.Settled.{rails_of}
use Rattle.inverse_stage.proofs.settle.counted.Given as goal

-- those before x are counted
abbrev pub invariant-loop-x : goal.invariant-loop-x
invariant-loop-x l = l.n ≡ rails_of l.x l.e l.m
