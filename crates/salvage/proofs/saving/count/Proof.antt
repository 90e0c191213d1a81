-- `count` meets its contract. Assumes nothing.
use mathlib.Core.Path.{◌≡◌}
use Prim.Native.Nat.{◌+◌, ◌-◌, ◌≤◌}
use lib.ListN.{length}
use Rattle.salvage.specs.Pieces.{dropped_of, dropped}
use Rattle.salvage.proofs.Joining.{rest, rest_end, count-more}
use mathlib.Core.Path.{ap}
use Rattle.file_fields.specs.declared.cursor.Cursor.{Cursor}
use Rattle.salvage.proofs.Lengths.{dropped-short}
use borrow.Author.Rules.{rules}
use native.Mathlib.Omega.{arith}
use Rattle.salvage.proofs.saving.count.Statement.{statement}
use Rattle.salvage.proofs.saving.count.Tie as tie

abbrev invariant-loop : tie.invariant-loop-cursor
invariant-loop file cursor₀ n₀ cursor n = (n + length (rest dropped_of file cursor) ≡ length (dropped file)) × (cursor.at ≤ length file)

abbrev decreases-loop : tie.decreases-loop-cursor
decreases-loop file cursor₀ n₀ cursor n = length file - cursor.at

new-requires : tie.Need-new-cursor-requires invariant-loop decreases-loop
new-requires c κs = search rules

loop-holds : tie.Need-loop-cursor-init invariant-loop decreases-loop
loop-holds c =
    let file = c.before.before.args.file.now in
    let e = c.new-cursor.ensures in
    (omega (arith, ap (λ (k : Cursor). length (rest dropped_of file k)) e), omega (arith, ap (λ (k : Cursor). k.at) e))

piece-at-requires : tie.Need-piece_at-found-requires invariant-loop decreases-loop
piece-at-requires c κs = search rules

counted-requires : tie.Need-counted-n-requires invariant-loop decreases-loop
counted-requires c κs = omega (arith, dropped-short c.before.before.before.before.before.before.args.file.now, c.before.before.before.loop-cursor.invariant.0, c.before.before.before.before.before.before.requires)

loop-less : tie.Need-loop-cursor-smaller invariant-loop decreases-loop
loop-less c = search rules

loop-again : tie.Need-loop-cursor-preserved invariant-loop decreases-loop
loop-again c =
    let f = c.before.before.piece_at-found in
    let l = c.before.before.before.before.before.loop-cursor in
    let m = count-more dropped_of c.before.before.before.before.before.before.before.before.args.file.now l.cursor f.result.piece f.result.next c.before.before.before.loop-cursor-test.true f.ensures.0 f.ensures.1.0 in
    (omega (arith, m, l.invariant.0, c.before.counted-n.ensures), f.ensures.1.1.1)

returns : tie.Need-returns invariant-loop decreases-loop
returns c = omega (arith, c.before.before.loop-cursor.invariant.0, ap length (rest_end dropped_of c.before.before.before.before.before.args.file.now c.before.before.loop-cursor.cursor c.loop-cursor-test.false))

pub count_spec : {M : Type 1} → statement M
count_spec =
    tie.close
    (tie.spec
    invariant-loop
    decreases-loop
    new-requires
    loop-holds
    piece-at-requires
    counted-requires
    loop-less
    loop-again
    returns)
