use Rattle.std.proofs.Common.{◌∙◌}
use Rattle.algebra.specs.Lists.{tabulate}
use Rattle.meaning.specs.Inverse.{inverse_outcome}
use Rattle.small_block.specs.Small.{zeros}
use Rattle.small_block.proofs.Sixteen.{flat_is}
use Rattle.small_block.proofs.inverse_4x4.Goals as goal

pub returns : goal.returns
unfolding tabulate
returns c =
    (λ i. (c.inverse-answer.result, c.residual_lines.ensures i))
    ∙ c.inverse-answer.ensures
    ∙ (λ i. inverse_outcome (c.new-shape.ensures i) ((c.as_flattened.ensures.value ∙ flat_is c.args.block) i) zeros)
