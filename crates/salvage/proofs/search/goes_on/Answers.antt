use borrow.Author.Tests.{eq-eqb, ne_eqb}
use Rattle.salvage.proofs.Searching.{goes-on-so}
use Rattle.salvage.proofs.search.goes_on.Goals as goal

pub returns-then-first-eq1 : goal.returns-then-first-eq1
returns-then-first-eq1 c =
    goes-on-so c.args.file.now c.args.at _ _ c.new.ensures c.advance-first.ensures (rw (eq-eqb _ 1 c.if-first-eq1.true) c.data_follows.ensures)

pub returns-else-first-eq1 : goal.returns-else-first-eq1
returns-else-first-eq1 c =
    goes-on-so c.args.file.now c.args.at _ _ c.new.ensures c.advance-first.ensures (rw (ne_eqb _ 1 c.if-first-eq1.false))
