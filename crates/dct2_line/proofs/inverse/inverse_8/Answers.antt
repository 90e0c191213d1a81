-- `inverse::inverse_8` meets its contract: the line of 4 points over the even inputs, the odd half, and one step. Assumes nothing.
use Rattle.std.proofs.Common.{arith, refl}
use Rattle.halves.proofs.Halved.{halves-8}
use Rattle.dct2_line.proofs.HalfRows.{pairs-given}
use Rattle.dct2_line.proofs.InverseStep.{evens-in, odds-there, step_given, step}
use Rattle.dct2_line.proofs.inverse.inverse_8.Goals as goal

pub overflow_mul-apart : goal.overflow_mul-apart
overflow_mul-apart c = omega (arith, c.requires.0.there 2 (omega arith))

pub inverse_4-requires : goal.inverse_4-requires
inverse_4-requires c = (evens-in {h = 4} c.requires.0, refl)

pub deal-requires : goal.deal-requires
deal-requires c = odds-there {h = 4} c.requires.0

-- the odd half, as it is asked for
pub line-requires : goal.line-requires
line-requires c = (
  pairs-given c.odd_8-t.ensures 2 refl _ _ c.deal.ensures _ (omega arith),
  record { small = omega arith; short = omega arith },
)

pub butterfly-requires : goal.butterfly-requires
butterfly-requires c = (step_given c.requires.0 2 refl refl c.inverse_4.ensures c.odd_8-t.ensures c.deal.ensures c.line.ensures, c.requires.1)

pub returns : goal.returns
returns c = step c.requires.0 2 refl refl c.inverse_4.ensures c.odd_8-t.ensures c.deal.ensures c.line.ensures halves-8 c.butterfly.ensures
