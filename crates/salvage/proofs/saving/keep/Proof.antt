-- `keep` meets its contract. Assumes nothing.
use mathlib.Core.Path.{sym, ap}
use native.Mathlib.Omega.{arith}
use borrow.Author.Tests.{not-true, not-false}
use lib.ListN.{length}
use Rattle.file_text.proofs.Writing.{within, nothing, retext}
use Rattle.salvage.proofs.Joining.{not-kept, is-kept}
use borrow.Author.Rules.{rules}
use Rattle.salvage.proofs.saving.keep.Statement.{statement}
use Rattle.salvage.proofs.saving.keep.Tie as tie

returns : tie.Need-returns-then-not-piece
returns c =
    let s = c.before.before.before.before in
    retext (sym (not-kept s.args.piece s.args.file.now (not-true _ c.if-not-piece.true))) (nothing _ s.args.at s.args.out.now)

add-end : tie.Need-overflow_add-end
add-end c = search rules

sub-copy : tie.Need-slice_bounds-copy-count
sub-copy c = search rules

part-copy-start : tie.Need-slice_bounds-copy-start
part-copy-start c = search rules

part-copy-end : tie.Need-slice_bounds-copy-end
part-copy-end c = search rules

copy-requires : tie.Need-copy-requires
copy-requires c κs =
    let s = c.before.before.before.before.before.before.before in
    let k = is-kept s.args.piece s.args.file.now (not-false _ c.before.before.before.if-not-piece.false) in
    omega (arith, ap length k, s.requires.1)

same_length : tie.Need-shape_of-out
same_length c = search rules

returns-2 : tie.Need-returns
returns-2 c =
    let s = c.before.before.before.before.before.before.before.before.before.before in
    let k = is-kept s.args.piece s.args.file.now (not-false _ c.before.before.before.before.before.before.if-not-piece.false) in
    within (retext k c.before.before.copy.ensures) (omega (arith, ap length k))

pub keep_spec : {M : Type 1} → statement M
keep_spec =
    tie.close
    (tie.spec
    returns
    add-end
    sub-copy
    part-copy-start
    part-copy-end
    copy-requires
    same_length
    returns-2)
