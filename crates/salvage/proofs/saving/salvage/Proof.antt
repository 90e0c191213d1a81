-- `salvage` meets its contract. Assumes nothing.
use native.Mathlib.Omega.{arith}
use Rattle.salvage.proofs.Lengths.{written-short}
use Rattle.salvage.proofs.Refused.{is-14, is-7, is-7-too, is-26, is-saved}
use borrow.Author.Rules.{rules}
use Rattle.salvage.proofs.saving.salvage.Statement.{statement}
use Rattle.salvage.proofs.saving.salvage.Tie as tie

refused-requires : tie.Need-refused-requires
refused-requires c κs = search rules

returns : tie.Need-returns-then-file-gt65536
returns c = is-14 c.before.before.before.before.before.args.file.now c.before.before.before.before.before.args.out.now c.before.before.before.before.before.args.list.now c.refused.ensures c.before.if-file-gt65536.true

refused-requires-2 : tie.Need-refused-requires-then-out-file
refused-requires-2 c κs = search rules

returns-2 : tie.Need-returns-then-out-file
returns-2 c = is-7 c.before.before.before.before.before.before.args.file.now c.before.before.before.before.before.before.args.out.now c.before.before.before.before.before.before.args.list.now c.before.before.if-file-gt65536.false c.refused-then-out-file.ensures c.before.if-out-file.true

refused-requires-3 : tie.Need-refused-requires-then-list-lt2048
refused-requires-3 c κs = search rules

returns-3 : tie.Need-returns-then-list-lt2048
returns-3 c = is-7-too c.before.before.before.before.before.before.before.args.file.now c.before.before.before.before.before.before.before.args.out.now c.before.before.before.before.before.before.before.args.list.now c.before.before.before.if-file-gt65536.false c.before.before.if-out-file.false c.refused-then-list-lt2048.ensures c.before.if-list-lt2048.true

count-requires : tie.Need-count-requires
count-requires c κs = search rules

refused-requires-4 : tie.Need-refused-requires-then-count-gt2048
refused-requires-4 c κs = search rules

returns-4 : tie.Need-returns-then-count-gt2048
returns-4 c = is-26 c.before.before.before.before.before.before.before.before.before.args.file.now c.before.before.before.before.before.before.before.before.before.args.out.now c.before.before.before.before.before.before.before.before.before.args.list.now c.before.before.before.before.before.if-file-gt65536.false c.before.before.before.before.if-out-file.false c.before.before.before.if-list-lt2048.false c.refused-then-count-gt2048.ensures (omega (arith, c.before.if-count-gt2048.true, c.before.before.count.ensures))

put-kept-requires : tie.Need-put_kept-bytes-requires
put-kept-requires c κs = search rules

put-dropped-requires : tie.Need-put_dropped-numbers-requires
put-dropped-requires c κs = search rules

cast-t13 : tie.Need-overflow_cast-result
cast-t13 c = record { fits = omega (arith, written-short c.before.before.before.before.before.before.before.before.before.before.before.before.before.before.before.before.args.file.now, c.before.before.before.before.before.before.put_kept-bytes.ensures.0, c.before.before.before.before.before.before.before.before.before.before.before.before.if-file-gt65536.false) }

cast-t14 : tie.Need-overflow_cast-result-2
cast-t14 c = record { fits = omega (arith, c.before.before.put_dropped-numbers.ensures.0, c.before.before.before.before.before.before.before.before.if-count-gt2048.false, c.before.before.before.before.before.before.before.before.before.count.ensures) }

same_length : tie.Need-shape_of-out
same_length c = search rules

same-length-2 : tie.Need-shape_of-list
same-length-2 c = search rules

returns-5 : tie.Need-returns
returns-5 c = is-saved c.before.before.before.before.before.before.before.before.before.before.before.before.before.before.before.before.args.file.now c.before.before.before.before.before.before.before.before.before.before.before.before.before.before.before.before.args.out.now c.before.before.before.before.before.before.before.before.before.before.before.before.before.before.before.before.args.list.now c.before.before.before.before.before.before.before.before.before.before.before.before.if-file-gt65536.false c.before.before.before.before.before.before.before.before.before.before.before.if-out-file.false c.before.before.before.before.before.before.before.before.before.before.if-list-lt2048.false (omega (arith, c.before.before.before.before.before.before.before.before.if-count-gt2048.false, c.before.before.before.before.before.before.before.before.before.count.ensures)) c.before.before.before.before.before.before.put_kept-bytes.ensures c.before.before.put_dropped-numbers.ensures

pub salvage_spec : {M : Type 1} → statement M
salvage_spec =
    tie.close
    (tie.spec
    refused-requires
    returns
    refused-requires-2
    returns-2
    refused-requires-3
    returns-3
    count-requires
    refused-requires-4
    returns-4
    put-kept-requires
    put-dropped-requires
    cast-t13
    cast-t14
    same_length
    same-length-2
    returns-5)
