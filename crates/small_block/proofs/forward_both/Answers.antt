use Rattle.std.proofs.Common.{sym, ◌∙◌}
use Rattle.algebra.specs.Lists.{tabulate}
use Rattle.meaning.specs.Forward.{forward_outcome}
use Rattle.small_block.specs.Small.{zeros}
use Rattle.small_block.proofs.Sixteen.{flat_is}
use Rattle.small_block.proofs.forward_both.Goals as goal

pub returns-clause-fact : goal.returns-clause-fact
returns-clause-fact c =
    let small = c.forward_4x4-small in
    (λ i. (small.result.answer, (c.copy_from_slice.ensures.after ∙ c.as_flattened-2.ensures.value ∙ flat_is small.result.block) i)) ∙ small.ensures

pub returns-clause-agree : goal.returns-clause-agree
unfolding tabulate
returns-clause-agree c =
    let small = c.forward_4x4-small in
    (λ i. (small.result.answer, (c.copy_from_slice.ensures.after ∙ c.as_flattened-2.ensures.value ∙ flat_is small.result.block) i))
    ∙ small.ensures
    ∙ sym (c.forward-lent.ensures ∙ (λ i. forward_outcome (c.new-shape.ensures i) ((c.as_flattened.ensures.value ∙ flat_is c.args.block) i) zeros))
