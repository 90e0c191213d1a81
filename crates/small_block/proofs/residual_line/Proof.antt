-- `residual_line` meets its contract. Assumes nothing.
use borrow.Author.Rules.{rules}
use mir.Syntax.{w32}
use Rattle.small_block.proofs.Sixteen.{number_fits, line_read}
use Rattle.small_block.proofs.residual_line.Statement.{statement}
use Rattle.small_block.proofs.residual_line.Tie as tie

mul-t4 : tie.Need-offset_bounds-r-from
mul-t4 c = search rules

array-copy-out-t7 : tie.Need-bounds-r-from
array-copy-out-t7 c = search rules

add-t8 : tie.Need-overflow_add-result
add-t8 c = search rules

mul-t9 : tie.Need-offset_bounds-r-from-2
mul-t9 c = search rules

array-copy-out-t12 : tie.Need-bounds-r-from-2
array-copy-out-t12 c = search rules

add-t13 : tie.Need-overflow_add-result-2
add-t13 c = search rules

mul-t14 : tie.Need-offset_bounds-r-from-3
mul-t14 c = search rules

array-copy-out-t17 : tie.Need-bounds-r-from-3
array-copy-out-t17 c = search rules

add-t18 : tie.Need-overflow_add-result-3
add-t18 c = search rules

mul-t19 : tie.Need-offset_bounds-r-from-4
mul-t19 c = search rules

array-copy-out-t22 : tie.Need-bounds-r-from-4
array-copy-out-t22 c = search rules

returns : tie.Need-returns
returns c =
    let s = c.before.before.before.before in
    line_read w32 s.args.r s.args.from (number_fits w32 s.args.r _ s.well_formed.0.1.1)

pub residual_line_spec : {M : Type 1} → statement M
residual_line_spec =
    tie.close
    (tie.spec
    mul-t4
    array-copy-out-t7
    add-t8
    mul-t9
    array-copy-out-t12
    add-t13
    mul-t14
    array-copy-out-t17
    add-t18
    mul-t19
    array-copy-out-t22
    returns)
