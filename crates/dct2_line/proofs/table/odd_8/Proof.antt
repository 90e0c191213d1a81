-- `table::odd_8` hands out its weights. Assumes nothing.
use Rattle.dct2_line.proofs.Stored.{table-odd8}
use Rattle.dct2_line.proofs.table.odd_8.Statement.{statement}
use Rattle.dct2_line.proofs.table.odd_8.Tie as tie

returns : tie.Need-returns
returns c = table-odd8

pub odd_8_spec : {M : Type 1} → statement M
odd_8_spec = tie.close (tie.spec returns)
