-- By the tag. Assumes nothing.
use Rattle.std.proofs.Common.{arith, ◌∙◌}
use Rattle.file_fields.proofs.Refusals.{of_one, of_data, of_unknown}
use Rattle.file_fields.proofs.field.header_refusal.Goals as goal

pub returns-in-1 : goal.returns-in-1
returns-in-1 c = c.shape_refusal.ensures ∙ of_one c.args.tag c.args.bytes c.args.shape (omega arith)

pub returns-in-2 : goal.returns-in-2
returns-in-2 c = c.data_refusal.ensures ∙ of_data c.args.tag c.args.bytes c.args.shape (omega arith) (omega arith)

pub returns-in_default : goal.returns-in_default
returns-in_default c = of_unknown c.args.tag c.args.bytes c.args.shape (λ h. omega arith) (λ h. omega arith) (λ h. omega arith) (λ h. omega arith)

pub returns-in_default-2 : goal.returns-in_default-2
returns-in_default-2 c = of_unknown c.args.tag c.args.bytes c.args.shape (λ h. omega arith) (λ h. omega arith) (λ h. omega arith) (λ h. omega arith)
