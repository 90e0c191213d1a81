-- Document 02, Wish 14: "with the switch off" the call of long numbers is the inverse of document 01, on numbers of 16 bits: the
-- plan (`plan-off`) and the whole outcome (`long-off`). Assumes nothing.
use mathlib.Core.Path.{◌≡◌, refl}
use mathlib.Core.Bool.{false}
use mathlib.Core.List.{List}
use Prim.Native.Nat.{ℕ, ◌<◌}
use native.Mathlib.Omega.{arith}
use borrow.Author.Tests.{le-ltb}
use lib.Dec.{ltb}
use lib.IntN.{ℤ, pos, negsuc}
use lib.ListN.{length}
use mir.Syntax.{w16}
use mir.Val.{SFits}
use Rattle.algebra.specs.Lists.{at}
use Rattle.algebra.proofs.First.{first_past}
use Rattle.algebra.proofs.Order.{parts-le}
use Rattle.meaning.specs.declared.Shape.{Shape}
use Rattle.meaning.specs.Shape.{is_long_depth}
use Rattle.meaning.specs.Plan.{short_range, range_of, plan_of, reach, long_plan}
use Rattle.meaning.specs.Inverse.{inverse_outcome}
use Rattle.meaning.specs.Long.{beyond, first_beyond, long_outcome}
use Rattle.meaning.proofs.LongCall.{not_beyond}

pub plan-off : (sh : Shape) → long_plan false sh ≡ plan_of sh
unfolding reach short_range
plan-off sh = refl

-- a number of 16 bits is in the range of 15
short-in : (z : ℤ) → SFits w16 z → beyond (range_of 15) z ≡ false
short-in (pos n) f = not_beyond (range_of 15) (pos n) (parts-le (negsuc 32767) (pos n) (omega arith)) (parts-le (pos n) (pos 32767) (omega (arith, f.sfits)))
short-in (negsuc n) f = not_beyond (range_of 15) (negsuc n) (parts-le (negsuc 32767) (negsuc n) (omega (arith, f.sfits))) (parts-le (negsuc n) (pos 32767) (omega arith))

module _ (sh : Shape) (c out : List ℤ) (short : (k : ℕ) → k < length c → SFits w16 (at c k)) where
  none : ltb (first_beyond (range_of 15) c) (length c) ≡ false
  none =
      let e = first_past (λ k z. beyond (range_of 15) z) c 0 (λ k h. short-in (at c k) (short k h)) in
      le-ltb (first_beyond (range_of 15) c) (length c) (omega (arith, e))

  pub long-off : long_outcome false sh c out ≡ inverse_outcome sh c out
  unfolding reach short_range is_long_depth
  long-off = rw none
