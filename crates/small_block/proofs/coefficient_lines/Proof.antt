-- `coefficient_lines` meets its contract. Assumes nothing.
use borrow.Author.Rules.{rules}
use Rattle.small_block.proofs.Sixteen.{four-lines}
use Rattle.small_block.proofs.coefficient_lines.Statement.{statement}
use Rattle.small_block.proofs.coefficient_lines.Tie as tie

coefficient-line-requires : tie.Need-coefficient_line-first-requires
coefficient-line-requires c κs = search rules

coefficient-line-requires-2 : tie.Need-coefficient_line-second-requires
coefficient-line-requires-2 c κs = search rules

coefficient-line-requires-3 : tie.Need-coefficient_line-third-requires
coefficient-line-requires-3 c κs = search rules

coefficient-line-requires-4 : tie.Need-coefficient_line-fourth-requires
coefficient-line-requires-4 c κs = search rules

returns : tie.Need-returns
returns c =
    let s = c.before.before.before.before in
    four-lines s.args.c _ _ _ _ s.well_formed.0.1.0.1 c.before.before.before.coefficient_line-first.ensures c.before.before.coefficient_line-second.ensures c.before.coefficient_line-third.ensures c.coefficient_line-fourth.ensures

pub coefficient_lines_spec : {M : Type 1} → statement M
coefficient_lines_spec =
    tie.close
    (tie.spec
    coefficient-line-requires
    coefficient-line-requires-2
    coefficient-line-requires-3
    coefficient-line-requires-4
    returns)
