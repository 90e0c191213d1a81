-- `put_kept` meets its contract. Assumes nothing.
use mathlib.Core.Path.{ap}
use Prim.Native.Nat.{◌-◌, ◌≤◌}
use lib.ListN.{length}
use Rattle.file_fields.specs.declared.cursor.Cursor.{Cursor}
use Rattle.salvage.specs.Pieces.{kept_of, written}
use Rattle.salvage.proofs.Joining.{rest, Writing, begun, count-more, written-more, ended, within}
use Rattle.salvage.proofs.Lengths.{written-short}
use borrow.Author.Rules.{rules}
use native.Mathlib.Omega.{arith}
use Rattle.salvage.proofs.saving.put_kept.Statement.{statement}
use Rattle.salvage.proofs.saving.put_kept.Tie as tie

abbrev invariant-loop : tie.invariant-loop-cursor
invariant-loop file out₀ cursor₀ p₀ out cursor p = Writing (written file) (rest (kept_of file) file cursor) out₀ out p × (cursor.at ≤ length file)

abbrev decreases-loop : tie.decreases-loop-cursor
decreases-loop file out₀ cursor₀ p₀ out cursor p = length file - cursor.at

new-requires : tie.Need-new-cursor-requires invariant-loop decreases-loop
new-requires c κs = search rules

loop-holds : tie.Need-loop-cursor-init invariant-loop decreases-loop
loop-holds c =
    let s = c.before.before.before in
    let file = s.args.file.now in
    (begun (kept_of file) file _ s.args.out.now c.new-cursor.ensures, omega (arith, ap (λ (k : Cursor). k.at) c.new-cursor.ensures))

piece-at-requires : tie.Need-piece_at-found-requires invariant-loop decreases-loop
piece-at-requires c κs = search rules

keep-requires : tie.Need-keep-p-requires invariant-loop decreases-loop
keep-requires c κs =
    let f = c.before.piece_at-found in
    let l = c.before.before.before.before.loop-cursor in
    let s = c.before.before.before.before.before.before.before.before in
    let file = s.args.file.now in
    let h = c.before.before.loop-cursor-test.true in
    let m = count-more (kept_of file) file l.cursor f.result.piece f.result.next h f.ensures.0 f.ensures.1.0 in
    (omega (arith, within file l.cursor f.result.piece h f.ensures.0, s.requires), omega (arith, m, l.invariant.0.count, l.invariant.0.long, written-short file, s.requires))

loop-less : tie.Need-loop-cursor-smaller invariant-loop decreases-loop
loop-less c = search rules

loop-again : tie.Need-loop-cursor-preserved invariant-loop decreases-loop
loop-again c =
    let f = c.before.before.before.before.before.piece_at-found in
    let l = c.before.before.before.before.before.before.before.before.loop-cursor in
    (written-more (kept_of c.before.before.before.before.before.before.before.before.before.before.before.before.args.file.now) c.before.before.before.before.before.before.before.before.before.before.before.before.args.file.now l.cursor f.result.piece f.result.next c.before.before.before.before.before.before.loop-cursor-test.true f.ensures.0 f.ensures.1.0 l.invariant.0 c.before.before.before.keep-p.ensures (search rules), f.ensures.1.1.1)

same_length : tie.Need-shape_of-out invariant-loop decreases-loop
same_length c = c.before.before.loop-cursor.invariant.0.long

returns : tie.Need-returns invariant-loop decreases-loop
returns c = ended (kept_of c.before.before.before.before.before.before.args.file.now) c.before.before.before.before.before.before.args.file.now c.before.before.loop-cursor.cursor c.loop-cursor-test.false c.before.before.loop-cursor.invariant.0

pub put_kept_spec : {M : Type 1} → statement M
put_kept_spec =
    tie.close
    (tie.spec
    invariant-loop
    decreases-loop
    new-requires
    loop-holds
    piece-at-requires
    keep-requires
    loop-less
    loop-again
    same_length
    returns)
