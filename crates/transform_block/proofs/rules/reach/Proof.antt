-- `reach` meets its contract. Assumes nothing.
use borrow.Author.Rules.{rules}
use mathlib.Core.Path.{ap, ◌∙◌}
use mathlib.Core.Bool.{Bool}
use Rattle.meaning.specs.Plan.{reach}
use Rattle.transform_block.proofs.rules.reach.Statement.{statement}
use Rattle.transform_block.proofs.rules.reach.Tie as tie

is-on-requires : tie.Need-is_on-requires
is-on-requires c κs = search rules

reach-of-requires : tie.Need-reach_of-requires
reach-of-requires c κs = search rules

returns : tie.Need-returns
returns c = c.reach_of.ensures ∙ ap (λ (b : Bool). reach b c.before.before.args.block.depth) c.before.is_on.ensures

pub reach_spec : {M : Type 1} → statement M
reach_spec = tie.close (tie.spec is-on-requires reach-of-requires returns)
