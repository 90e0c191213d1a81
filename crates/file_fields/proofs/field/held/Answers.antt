-- By what the shape is refused with. Assumes nothing.
use Rattle.std.proofs.Common.{sym, ◌∙◌}
use Rattle.file_fields.proofs.Refusals.{held-number}
use Rattle.file_fields.proofs.field.held.Goals as goal

pub returns-then-is_err : goal.returns-then-is_err
returns-then-is_err c = rw (held-number _ c.args.shape c.refusal.ensures ∙ sym c.is_err.ensures.value ∙ c.if-is_err.true)

pub returns : goal.returns
returns c = rw (held-number _ c.args.shape c.refusal.ensures ∙ sym c.is_err.ensures.value ∙ c.if-is_err.false)
