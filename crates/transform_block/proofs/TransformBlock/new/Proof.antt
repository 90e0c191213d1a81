-- `TransformBlock::new` meets its contract. Assumes nothing.
use borrow.Author.Rules.{rules}
use Rattle.transform_block.proofs.TransformBlock.new.Statement.{statement}
use Rattle.transform_block.proofs.TransformBlock.new.Tie as tie

most-kept-requires : tie.Need-most_kept-requires
most-kept-requires c κs = search rules

most-kept-requires-2 : tie.Need-most_kept-requires-2
most-kept-requires-2 c κs = search rules

returns : tie.Need-returns
returns c = rw (← c.before.most_kept.ensures, ← c.most_kept-2.ensures)

pub new_spec : {M : Type 1} → statement M
new_spec = tie.close (tie.spec most-kept-requires most-kept-requires-2 returns)
