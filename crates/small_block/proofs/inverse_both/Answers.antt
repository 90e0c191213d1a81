use Rattle.std.proofs.Common.{sym, ◌∙◌}
use Rattle.algebra.specs.Lists.{tabulate}
use Rattle.meaning.specs.Inverse.{inverse_outcome}
use Rattle.small_block.specs.Small.{zeros}
use Rattle.small_block.proofs.Sixteen.{flat_is}
use Rattle.small_block.proofs.inverse_both.Goals as goal

pub returns-clause-fact : goal.returns-clause-fact
returns-clause-fact c =
    let small = c.inverse_4x4-small in
    (λ i. (small.result.answer, (c.copy_from_slice.ensures.after ∙ c.as_flattened-2.ensures.value ∙ flat_is small.result.block) i)) ∙ small.ensures

pub returns-clause-agree : goal.returns-clause-agree
unfolding tabulate
returns-clause-agree c =
    let small = c.inverse_4x4-small in
    (λ i. (small.result.answer, (c.copy_from_slice.ensures.after ∙ c.as_flattened-2.ensures.value ∙ flat_is small.result.block) i))
    ∙ small.ensures
    ∙ sym (c.inverse-lent.ensures ∙ (λ i. inverse_outcome (c.new-shape.ensures i) ((c.as_flattened.ensures.value ∙ flat_is c.args.block) i) zeros))
