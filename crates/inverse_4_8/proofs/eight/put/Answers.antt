use Rattle.std.proofs.Common.{rules, arith}
use Rattle.inverse_4_8.proofs.Square.{of_other}
use Rattle.inverse_4_8.proofs.eight.put.Goals as goal

pub returns-in_default : goal.returns-in_default
returns-in_default c =
    (search rules, of_other c.args.kind c.requires (λ e. omega arith) (λ e. omega arith) c.zipped_8-in_default.ensures)
