-- `list_stretch` meets its contract. Assumes nothing.
use mathlib.Core.Path.{sym, ap}
use native.Mathlib.Omega.{arith}
use lib.ListN.{length, length-set}
use Rattle.file_text.proofs.Writing.{nothing, retext, and_then, one}
use Rattle.salvage.proofs.Joining.{not-dropped, is-dropped}
use borrow.Author.Rules.{rules}
use Rattle.salvage.proofs.saving.list_stretch.Statement.{statement}
use Rattle.salvage.proofs.saving.list_stretch.Tie as tie

returns : tie.Need-returns-then-piece
returns c = retext (sym (not-dropped c.before.args.piece c.if-piece.true)) (nothing 2 c.before.args.at c.before.args.list.now)

add-next : tie.Need-overflow_add-next
add-next c = search rules

cast-list : tie.Need-overflow_cast-list
cast-list c = search rules

mul-list : tie.Need-offset_bounds-list-at
mul-list c = search rules

slice-write-list : tie.Need-bounds-list-at
slice-write-list c = omega (arith, ap length (is-dropped c.before.before.args.piece c.before.if-piece.false))

cast-list-2 : tie.Need-overflow_cast-list-2
cast-list-2 c = search rules

mul-list-2 : tie.Need-offset_bounds-list-next
mul-list-2 c = search rules

slice-write-list-2 : tie.Need-bounds-list-next
slice-write-list-2 c = omega (arith, ap length (is-dropped c.before.before.before.args.piece c.before.before.if-piece.false), length-set c.before.before.before.args.list.now c.before.before.before.args.at c.before.before.before.args.piece.offset)

add-result : tie.Need-overflow_add-result
add-result c = search rules

same_length : tie.Need-shape_of-list
same_length c = search rules

returns-2 : tie.Need-returns
returns-2 c =
    let s = c.before.before.before in
    let l = s.args.list.now in
    let d = is-dropped s.args.piece c.before.before.if-piece.false in
    retext (sym d) (and_then (one s.args.piece.offset s.args.at l (omega (arith, ap length d))) (one s.args.piece.bytes _ _ (omega (arith, ap length d, length-set l s.args.at s.args.piece.offset))))

pub list_stretch_spec : {M : Type 1} → statement M
list_stretch_spec =
    tie.close
    (tie.spec
    returns
    add-next
    cast-list
    mul-list
    slice-write-list
    cast-list-2
    mul-list-2
    slice-write-list-2
    add-result
    same_length
    returns-2)
