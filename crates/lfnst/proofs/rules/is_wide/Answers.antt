use Rattle.std.proofs.Common.{arith, refl}
use borrow.Author.Tests.{lt-leb, le-leb}
use Rattle.lfnst.specs.LowFrequency.{is_wide}
use Rattle.lfnst.proofs.rules.is_wide.Goals as goal

pub returns-then-width-ge8 : goal.returns-then-width-ge8
unfolding is_wide
returns-then-width-ge8 c = rw (le-leb 8 c.args.width (omega (arith, c.if-width-ge8.true))) refl

pub returns-else-width-ge8 : goal.returns-else-width-ge8
unfolding is_wide
returns-else-width-ge8 c = rw (lt-leb 8 c.args.width (omega (arith, c.if-width-ge8.false))) refl
