-- `staged` meets its contract: both ways are given the smallest sizes that what is read fits in. Assumes nothing.
use borrow.Author.Rules.{rules}
use mathlib.Core.Path.{sym}
use Rattle.meaning.proofs.KeptPart.{columns-kept, rows-kept}
use Rattle.transform_short.proofs.Narrowed.{given-stages, given-again}
use Rattle.transform_short.proofs.staged.staged.Statement.{statement}
use Rattle.transform_short.proofs.staged.staged.Tie as tie

cast-size-for : tie.Need-overflow_cast-shape
cast-size-for c = search rules

size-for-requires : tie.Need-size_for-rows-requires
size-for-requires c κs = let s = c.before in (rows-kept s.args.shape s.requires.block.taken).short

cast-size-for-2 : tie.Need-overflow_cast-shape-2
cast-size-for-2 c = search rules

size-for-requires-2 : tie.Need-size_for-columns-requires
size-for-requires-2 c κs = let s = c.before.before.before in (columns-kept s.args.shape s.requires.block.taken).short

is-dct2-requires : tie.Need-is_dct2-requires
is-dct2-requires c κs = search rules

worked-requires : tie.Need-worked-requires
worked-requires c κs =
    let C = c.before.before.before in
    let R = C.before.before in
    let s = R.before.before in
    (given-stages s.args.shape s.args.c.now s.args.r.now s.requires R.size_for-rows.result C.size_for-columns.result R.size_for-rows.ensures C.size_for-columns.ensures, c.before.before.is_dct2.ensures c.before.if-is_dct2.true)

same_length : tie.Need-shape_of-r-then-worked
same_length c = search rules

returns : tie.Need-returns-then-worked
returns c = let e = c.before.before.worked.ensures c.if-worked.true in (sym e.0, e.1)

larger-requires : tie.Need-larger-requires
larger-requires c κs =
    let W = c.before.before.before in
    let C = W.before.before.before.before in
    let R = C.before.before in
    let s = R.before.before in
    given-stages s.args.shape s.args.c.now W.worked.new.r (given-again s.args.shape s.args.c.now s.args.r.now W.worked.new.r W.worked.auto.r s.requires) R.size_for-rows.result C.size_for-columns.result R.size_for-rows.ensures C.size_for-columns.ensures

same-length-2 : tie.Need-shape_of-r-then-is_dct2
same-length-2 c = search rules

returns-2 : tie.Need-returns-then-is_dct2
returns-2 c = c.before.larger.ensures

larger-requires-2 : tie.Need-larger-requires-2
larger-requires-2 c κs =
    let C = c.before.before.before in
    let R = C.before.before in
    let s = R.before.before in
    given-stages s.args.shape s.args.c.now s.args.r.now s.requires R.size_for-rows.result C.size_for-columns.result R.size_for-rows.ensures C.size_for-columns.ensures

same-length-3 : tie.Need-shape_of-r
same-length-3 c = search rules

returns-3 : tie.Need-returns
returns-3 c = c.before.larger-2.ensures

pub staged_spec : {M : Type 1} → statement M
staged_spec =
    tie.close
    (tie.spec
    cast-size-for
    size-for-requires
    cast-size-for-2
    size-for-requires-2
    is-dct2-requires
    worked-requires
    same_length
    returns
    larger-requires
    same-length-2
    returns-2
    larger-requires-2
    same-length-3
    returns-3)
