-- `residual_lines` meets its contract. Assumes nothing.
use borrow.Author.Rules.{rules}
use Rattle.small_block.proofs.Sixteen.{four-lines}
use Rattle.small_block.proofs.residual_lines.Statement.{statement}
use Rattle.small_block.proofs.residual_lines.Tie as tie

residual-line-requires : tie.Need-residual_line-first-requires
residual-line-requires c κs = search rules

residual-line-requires-2 : tie.Need-residual_line-second-requires
residual-line-requires-2 c κs = search rules

residual-line-requires-3 : tie.Need-residual_line-third-requires
residual-line-requires-3 c κs = search rules

residual-line-requires-4 : tie.Need-residual_line-fourth-requires
residual-line-requires-4 c κs = search rules

returns : tie.Need-returns
returns c =
    let s = c.before.before.before.before in
    four-lines s.args.r _ _ _ _ s.well_formed.0.1.0.1 c.before.before.before.residual_line-first.ensures c.before.before.residual_line-second.ensures c.before.residual_line-third.ensures c.residual_line-fourth.ensures

pub residual_lines_spec : {M : Type 1} → statement M
residual_lines_spec =
    tie.close
    (tie.spec
    residual-line-requires
    residual-line-requires-2
    residual-line-requires-3
    residual-line-requires-4
    returns)
