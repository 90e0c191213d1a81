-- `inverse::inverse_32` meets its contract: the line of 16 points over the even inputs, the odd half, and one step. Assumes nothing.
use Rattle.std.proofs.Common.{arith, refl}
use Rattle.halves.proofs.Halved.{halves-32}
use Rattle.dct2_line.proofs.HalfRows.{pairs-given}
use Rattle.dct2_line.proofs.InverseStep.{evens-in, odds-there, step_given, step}
use Rattle.dct2_line.proofs.inverse.inverse_32.Goals as goal

pub overflow_mul-apart : goal.overflow_mul-apart
overflow_mul-apart c = omega (arith, c.requires.0.there 2 (omega arith))

pub overflow_mul-apart-2 : goal.overflow_mul-apart-2
overflow_mul-apart-2 c = omega (arith, c.requires.0.there 2 (omega arith))

pub inverse_16-requires : goal.inverse_16-requires
inverse_16-requires c = (evens-in {h = 16} c.requires.0, refl)

pub deal-requires : goal.deal-requires
deal-requires c = odds-there {h = 16} c.requires.0

-- the odd half, as it is asked for
pub line-requires : goal.line-requires
line-requires c = (
  pairs-given c.odd_32-t.ensures 8 refl _ _ c.deal.ensures _ (omega (arith, c.requires.1.1)),
  record { small = omega arith; short = omega arith },
)

pub butterfly-requires : goal.butterfly-requires
butterfly-requires c = (step_given c.requires.0 8 refl c.requires.1.1 c.inverse_16.ensures c.odd_32-t.ensures c.deal.ensures c.line.ensures, c.requires.1.0)

pub returns : goal.returns
returns c = step c.requires.0 8 refl c.requires.1.1 c.inverse_16.ensures c.odd_32-t.ensures c.deal.ensures c.line.ensures halves-32 c.butterfly.ensures
