-- `table::odd_32` hands out its weights. Assumes nothing.
use Rattle.dct2_line.proofs.Stored.{table-odd32}
use Rattle.dct2_line.proofs.table.odd_32.Statement.{statement}
use Rattle.dct2_line.proofs.table.odd_32.Tie as tie

returns : tie.Need-returns
returns c = table-odd32

pub odd_32_spec : {M : Type 1} → statement M
odd_32_spec = tie.close (tie.spec returns)
