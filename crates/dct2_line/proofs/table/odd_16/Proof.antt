-- `table::odd_16` hands out its weights. Assumes nothing.
use Rattle.dct2_line.proofs.Stored.{table-odd16}
use Rattle.dct2_line.proofs.table.odd_16.Statement.{statement}
use Rattle.dct2_line.proofs.table.odd_16.Tie as tie

returns : tie.Need-returns
returns c = table-odd16

pub odd_16_spec : {M : Type 1} → statement M
odd_16_spec = tie.close (tie.spec returns)
