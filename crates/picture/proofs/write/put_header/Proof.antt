-- `put_header` meets its contract. Assumes nothing.
use native.Mathlib.Omega.{arith}
use Rattle.file_text.proofs.Writing.{and_then, within}
use Rattle.picture.specs.Picture.{header_text}
use borrow.Author.Rules.{rules}
use Rattle.picture.proofs.write.put_header.Statement.{statement}
use Rattle.picture.proofs.write.put_header.Tie as tie

put-requires : tie.Need-put-p-requires
put-requires c κs = search rules

put-requires-2 : tie.Need-put-name-requires
put-requires-2 c κs = search rules

put-requires-3 : tie.Need-put-first-requires
put-requires-3 c κs = search rules

put-number-requires : tie.Need-put_number-wide-requires
put-number-requires c κs = search rules

put-number-requires-2 : tie.Need-put_number-high-requires
put-number-requires-2 c κs = search rules

put-number-requires-3 : tie.Need-put_number-requires
put-number-requires-3 c κs = search rules

same_length : tie.Need-shape_of-file
same_length c = search rules

returns : tie.Need-returns
unfolding header_text
returns c =
    within (and_then c.before.before.before.before.before.before.before.before.before.before.before.before.before.before.before.before.before.before.before.before.before.before.put-p.ensures (and_then c.before.before.before.before.before.before.before.before.before.before.before.before.before.before.before.before.before.before.put-name.ensures (and_then c.before.before.before.before.before.before.before.before.before.before.before.before.before.before.put-first.ensures (and_then c.before.before.before.before.before.before.before.before.before.before.put_number-wide.ensures (and_then c.before.before.before.before.before.before.put_number-high.ensures c.before.before.put_number.ensures))))) (omega arith)

pub put_header_spec : {M : Type 1} → statement M
put_header_spec =
    tie.close
    (tie.spec
    put-requires
    put-requires-2
    put-requires-3
    put-number-requires
    put-number-requires-2
    put-number-requires-3
    same_length
    returns)
