-- `short` meets its contract: the plan of the shape is the block's. Assumes nothing.
use borrow.Author.Rules.{rules}
use mathlib.Core.Path.{sym, ap, ◌∙◌}
use Rattle.meaning.specs.Plan.{Plan}
use Rattle.meaning.specs.Inverse.{rails, inverse_block}
use Rattle.transform_block.proofs.ShortBlock.{same-plan, given-read}
use Rattle.transform_block.proofs.short.short.Statement.{statement}
use Rattle.transform_block.proofs.short.short.Tie as tie

stages-requires : tie.Need-stages-requires
stages-requires c κs = let s = c.before in given-read s.args.block s.requires.1 s.args.numbers.now s.requires.0

same_length : tie.Need-shape_of-numbers
same_length c = search rules

returns : tie.Need-returns
returns c =
    let s = c.before.before.before in
    let n = s.args.numbers.now in
    let p = sym (same-plan s.args.block s.requires.1) in
    let e = c.before.stages.ensures in
    (e.0 ∙ ap (λ (p : Plan). rails p n) p, e.1 ∙ ap (λ (p : Plan). inverse_block p n) p)

pub short_spec : {M : Type 1} → statement M
short_spec = tie.close (tie.spec stages-requires same_length returns)
