-- With the switch off the call of long numbers tells what the call of 16-bit numbers does: no number of 16 bits is beyond the
-- range, so 27 never applies (`why-off`). Assumes nothing.
use mathlib.Core.Path.{◌≡◌, refl, ap, ◌∙◌}
use mathlib.Core.Bool.{false}
use mathlib.Core.List.{List, [], ◌∷◌, ◌++◌}
use Prim.Native.Nat.{ℕ, ◌*◌, ◌<◌}
use lib.IntN.{ℤ}
use lib.ListN.{length}
use mir.Syntax.{w16}
use mir.Val.{SFits}
use Rattle.algebra.specs.Lists.{at}
use Rattle.algebra.proofs.Refusals.{Clear, left_out}
use Rattle.meaning.specs.declared.Shape.{Shape}
use Rattle.meaning.specs.Shape.{is_long_depth}
use Rattle.meaning.specs.Plan.{Plan, short_range, reach, plan_of}
use Rattle.meaning.specs.Answer.{Outcome, shape_tests, input_test}
use Rattle.meaning.specs.Inverse.{inverse_outcome, outside_test}
use Rattle.meaning.proofs.LongOff.{long-off}
use Rattle.meaning.proofs.LongCall.{long-accepted}
use Rattle.meaning.specs.Long.{beyond_test}
use Rattle.why.specs.Why.{parts_of, no_parts, place_test, why_outcome, long_why_outcome}

module _ (sh : Shape) (c : List ℤ) (short : (k : ℕ) → k < length c → SFits w16 (at c k)) where
  abbrev p : Plan
  p = plan_of sh

  -- past the others, the inverse with the switch off would have refused it
  taken : Clear (shape_tests sh ++ (input_test (p.width * p.height) (length c) ∷ outside_test p c ∷ [])) → (inverse_outcome sh c c).0.number ≡ 0
  taken (w, (h, (k, (v, (d, (m, (l, (o, _)))))))) = rw (w, h, k, v, d, m, l, o) refl

  pub why-off : (place : ℕ) → long_why_outcome false sh c place ≡ why_outcome sh c place
  unfolding reach short_range is_long_depth
  why-off place =
      left_out no_parts (parts_of p c place) (shape_tests sh ++ (input_test (p.width * p.height) (length c) ∷ outside_test p c ∷ [])) (beyond_test p c) (place_test p place ∷ [])
      (λ clear. (long-accepted false sh c c (ap (λ (o : Outcome). o.0.number) (long-off sh c c short) ∙ taken clear)).range)
