use Rattle.salvage.proofs.Moves.{advance-read, advance-lost}
use Rattle.salvage.proofs.search.onward.Goals as goal

pub returns-then-advance-eq0 : goal.returns-then-advance-eq0
returns-then-advance-eq0 c = advance-read c.args.file.now c.args.cursor c.requires.0 c.requires.1 c.if-advance-eq0.true

pub returns : goal.returns
returns c = advance-lost c.args.file.now c.args.cursor c.requires.0 c.requires.1 c.if-advance-eq0.false c.next_after.ensures
