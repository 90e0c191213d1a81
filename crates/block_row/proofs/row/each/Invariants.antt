use Rattle.block_row.specs.Numbers.{shapes_of}
use Rattle.block_row.proofs.Made.{Made}
use Rattle.block_row.proofs.row.each.Given as goal

-- one block on at each turn
abbrev pub invariant-loop-k : goal.invariant-loop-k
invariant-loop-k l =
    Made (shapes_of l.count l.shapes) l.initial.answers l.coefficients l.initial.residuals l.k l.start l.answers l.residuals
