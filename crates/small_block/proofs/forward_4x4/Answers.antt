use Rattle.std.proofs.Common.{◌∙◌}
use Rattle.algebra.specs.Lists.{tabulate}
use Rattle.meaning.specs.Forward.{forward_outcome}
use Rattle.small_block.specs.Small.{zeros}
use Rattle.small_block.proofs.Sixteen.{flat_is}
use Rattle.small_block.proofs.forward_4x4.Goals as goal

pub returns : goal.returns
unfolding tabulate
returns c =
    (λ i. (c.forward-answer.result, c.coefficient_lines.ensures i))
    ∙ c.forward-answer.ensures
    ∙ (λ i. forward_outcome (c.new-shape.ensures i) ((c.as_flattened.ensures.value ∙ flat_is c.args.block) i) zeros)
