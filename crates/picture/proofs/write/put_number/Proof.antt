-- `put_number` meets its contract. Assumes nothing.
use Rattle.file_text.proofs.Writing.{and_then}
use borrow.Author.Rules.{rules}
use Rattle.picture.proofs.write.put_number.Statement.{statement}
use Rattle.picture.proofs.write.put_number.Tie as tie

put-decimal-requires : tie.Need-put_decimal-next-requires
put-decimal-requires c κs = search rules

put-requires : tie.Need-put-requires
put-requires c κs = search rules

same_length : tie.Need-shape_of-file
same_length c = search rules

returns : tie.Need-returns
returns c = and_then c.before.before.before.before.before.before.put_decimal-next.ensures c.before.before.put.ensures

pub put_number_spec : {M : Type 1} → statement M
put_number_spec = tie.close (tie.spec put-decimal-requires put-requires same_length returns)
