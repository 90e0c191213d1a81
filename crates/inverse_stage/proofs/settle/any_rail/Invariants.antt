use Rattle.std.proofs.Common.{◌≡◌, false}
use Rattle.inverse_stage.specs.Settled.{rails_of}
use Rattle.inverse_stage.proofs.settle.any_rail.Given as goal

-- where none was found, none counts before x
abbrev pub invariant-loop-x : goal.invariant-loop-x
invariant-loop-x l = l.found ≡ false → rails_of l.x l.e l.m ≡ 0
