-- The rows from y on are done, and what stands before them is as it was. Assumes nothing.
use Rattle.transform_stages.specs.Work.{residual_at}
use Rattle.transform_stages.proofs.Back.{Back}
use Rattle.transform_stages.proofs.upward.upward.Given as goal

abbrev pub invariant-loop-y : goal.invariant-loop-y
invariant-loop-y l = Back l.w l.h l.y (residual_at l.t l.w l.columns l.pairs l.last l.initial.m) l.m l.initial.m
