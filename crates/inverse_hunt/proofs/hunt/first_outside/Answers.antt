use Rattle.std.proofs.Common.{arith, length}
use borrow.Author.Tests.{le-ltb}
use Rattle.meaning.specs.Plan.{plan_of}
use Rattle.layout.proofs.Inside.{none-outside}
use Rattle.inverse_hunt.proofs.hunt.first_outside.Goals as goal

pub returns-else-columns_kept-columns : goal.returns-else-columns_kept-columns
returns-else-columns_kept-columns c =
    let s = c.args in
    rw (none-outside (plan_of s.shape) s.c.now c.requires.0.0 c.requires.1 (omega arith) (omega arith), le-ltb (length s.c.now) (length s.c.now) (omega arith))
