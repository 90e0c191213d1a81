use Rattle.std.proofs.Common.{◌≡◌, length}
use Rattle.forward_block.specs.Stage.{line_value, Stage}
use Rattle.forward_block.proofs.stages.put_lines.Given as goal

-- the lines before y are written, and all else is as it was
abbrev pub invariant-loop-y : goal.invariant-loop-y
invariant-loop-y l =
    (length l.e ≡ 32) × Stage l.kept l.wide l.y (line_value l.pairs l.a l.step l.gap l.b l.apart l.shift) l.out l.initial.out
