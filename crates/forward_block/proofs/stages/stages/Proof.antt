-- `stages::stages` meets its contract. Assumes nothing.
use borrow.Author.Rules.{rules}
use Rattle.forward_block.proofs.stages.stages.Statement.{statement}
use Rattle.forward_block.proofs.stages.stages.Tie as tie

is-small-requires : tie.Need-is_small-requires
is-small-requires c κs = search rules

small-requires : tie.Need-small-requires
small-requires c κs =
    let s = c.before.before.before in
    (s.requires.0, (s.requires.1, c.before.before.is_small.ensures c.before.if-is_small.true))

large-requires : tie.Need-large-requires
large-requires c κs = c.before.before.before.requires

same_length : tie.Need-shape_of-coefficients-then-is_small
same_length c = search rules

returns : tie.Need-returns-then-is_small
returns c = c.before.small.ensures

same-length-2 : tie.Need-shape_of-coefficients-else-is_small
same-length-2 c = search rules

returns-2 : tie.Need-returns-else-is_small
returns-2 c = c.before.large.ensures

pub stages_spec : {M : Type 1} → statement M
stages_spec = tie.close (tie.spec is-small-requires small-requires large-requires same_length returns same-length-2 returns-2)
