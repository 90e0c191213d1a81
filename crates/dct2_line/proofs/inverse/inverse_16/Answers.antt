-- `inverse::inverse_16` meets its contract: the line of 8 points over the even inputs, the odd half, and one step. Assumes nothing. Made by crates/dct2_line/make; do not edit.
use Rattle.std.proofs.Common.{arith, refl}
use Rattle.halves.proofs.Halved.{halves-16}
use Rattle.dct2_line.proofs.HalfRows.{pairs-given}
use Rattle.dct2_line.proofs.InverseStep.{evens-in, odds-there, step_given, step}
use Rattle.dct2_line.proofs.inverse.inverse_16.Goals as goal

pub overflow_mul-apart : goal.overflow_mul-apart
overflow_mul-apart c = omega (arith, c.requires.0.there 2 (omega arith))

pub inverse_8-requires : goal.inverse_8-requires
inverse_8-requires c = (evens-in {h = 8} c.requires.0, refl)

pub deal-requires : goal.deal-requires
deal-requires c = odds-there {h = 8} c.requires.0

-- the odd half, as it is asked for
pub line-requires : goal.line-requires
line-requires c = (
  pairs-given c.odd_16-t.ensures 4 refl _ _ c.deal.ensures _ (omega arith),
  record { small = omega arith; short = omega arith },
)

pub butterfly-requires : goal.butterfly-requires
butterfly-requires c = (step_given c.requires.0 4 refl refl c.inverse_8.ensures c.odd_16-t.ensures c.deal.ensures c.line.ensures, c.requires.1)

pub returns : goal.returns
returns c = step c.requires.0 4 refl refl c.inverse_8.ensures c.odd_16-t.ensures c.deal.ensures c.line.ensures halves-16 c.butterfly.ensures
