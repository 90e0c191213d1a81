-- `piece_at` meets its contract. Assumes nothing.
use Prim.Native.Nat.{◌-◌}
use lib.Dec.{eqb}
use borrow.Author.Rules.{rules}
use Rattle.salvage.proofs.search.piece_at.Statement.{statement}
use Rattle.salvage.proofs.search.piece_at.Tie as tie

advance-requires : tie.Need-advance-advance-requires
advance-requires c κs = search rules

onward-requires : tie.Need-onward-next-requires
onward-requires c κs = search rules

sub-t7 : tie.Need-overflow_sub-piece
sub-t7 c = search rules

returns : tie.Need-returns
returns c =
    let s = c.before.before.before.advance-advance in
    let o = c.before.before.onward-next in
    (λ i. record { offset = c.before.before.before.before.before.args.cursor.at; bytes = (o.ensures.0 i).at - c.before.before.before.before.before.args.cursor.at; kept = eqb (s.ensures i).number 0 }, o.ensures)

pub piece_at_spec : {M : Type 1} → statement M
piece_at_spec = tie.close (tie.spec advance-requires onward-requires sub-t7 returns)
