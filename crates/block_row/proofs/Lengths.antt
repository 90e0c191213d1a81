-- A call that is turned down leaves its output (`refused-keeps`), and every call keeps its length (`inverse-long`). Assumes
-- nothing.
use mathlib.Core.Path.{◌≡◌, refl, ap, sym, ◌∙◌}
use mathlib.Core.Bool.{Bool, true, false, cond}
use mathlib.Core.List.{List, [], ◌∷◌}
use native.Mathlib.Nat.{mul_comm}
use native.Mathlib.Decide.{ℕ_discrete}
use lib.IntN.{ℤ}
use lib.ListN.{length}
use Rattle.algebra.specs.Refusals.{Test}
use Rattle.algebra.proofs.Lists.{block-length}
use Rattle.meaning.specs.declared.Shape.{Shape}
use Rattle.meaning.specs.Answer.{Outcome, outcome, refused, accepted}
use Rattle.meaning.specs.Plan.{plan_of}
use Rattle.meaning.specs.Inverse.{rails, residual, inverse_block, inverse_tests, inverse_outcome}
use Rattle.meaning.proofs.AcceptedCalls.{inverse-accepted, inverse-done}

untouched : (ts : List Test) (out : List ℤ) (done : Outcome) → done.0.number ≡ 0 → ((outcome ts out done).0.number ≡ 0 → ⊥) → (outcome ts out done).1 ≡ out
untouched [] out done z n = absurd (n z)
untouched (t ∷ ts) out done z n = here t.applies (untouched ts out done z) n
  where
    here : (b : Bool) → (((outcome ts out done).0.number ≡ 0 → ⊥) → (outcome ts out done).1 ≡ out)
        → ((cond b (refused t.number t.place, out) (outcome ts out done)).0.number ≡ 0 → ⊥) → (cond b (refused t.number t.place, out) (outcome ts out done)).1 ≡ out
    here true next n = refl
    here false next n = next n

module _ (sh : Shape) (c out : List ℤ) where
  pub refused-keeps : ((inverse_outcome sh c out).0.number ≡ 0 → ⊥) → (inverse_outcome sh c out).1 ≡ out
  refused-keeps = untouched (inverse_tests sh c out) out (accepted (rails (plan_of sh) c), inverse_block (plan_of sh) c) refl

  pub inverse-long : length (inverse_outcome sh c out).1 ≡ length out
  unfolding inverse_block
  inverse-long = by (ℕ_discrete (inverse_outcome sh c out).0.number 0)
    where
      by : Dec ((inverse_outcome sh c out).0.number ≡ 0) → length (inverse_outcome sh c out).1 ≡ length out
      by (yes e) =
          let a = inverse-accepted sh c out e in
          ap (λ (o : Outcome). length o.1) (inverse-done sh c out a)
          ∙ block-length sh.width sh.height (residual (plan_of sh) c) ∙ mul_comm sh.height sh.width ∙ sym a.0.room
      by (no n) = ap length (refused-keeps n)
