-- What a line answers: the first refusal that applies, or the line. Assumes nothing.
use native.Mathlib.Omega.{arith}
use mathlib.Core.Path.{◌≡◌, sym, ap, ◌∙◌}
use mathlib.Core.List.{List, []}
use Prim.Native.Nat.{ℕ, ◌<◌}
use lib.IntN.{ℤ}
use lib.ListN.{length}
use Rattle.algebra.specs.Refusals.{number_of}
use Rattle.algebra.proofs.Refusals.{refused-first, passed_first}
use Rattle.meaning.specs.declared.Answer.{Answer}
use Rattle.meaning.specs.declared.refusal.Refusal.{Refusal}
use Rattle.meaning.specs.Refusal.{refusal_number}
use Rattle.meaning.specs.Answer.{Outcome, outcome, refused, line_tests}
use Rattle.meaning.proofs.RefusalNumbers.{above}

module _ (n kind : ℕ) (x y : List ℤ) (done : Outcome) where
  pub turned-down : (refusal : Refusal) {a : Answer} → a ≡ refused (refusal_number refusal) 0 → refusal_number refusal ≡ number_of (line_tests n kind (length x) (length y))
      → ◌≡◌ {A = Outcome} (a, y) (outcome (line_tests n kind (length x) (length y)) y done)
  turned-down refusal h e =
      let p = above refusal in
      ap (λ (a : Answer). (a, y)) (h ∙ ap (λ (number : ℕ). refused number 0) e)
      ∙ sym (refused-first [] (λ number place. (refused number place, y)) done (line_tests n kind (length x) (length y)) tt (λ z. omega (arith, p, e, z)))

  pub carried-out : 0 ≡ number_of (line_tests n kind (length x) (length y)) → done ≡ outcome (line_tests n kind (length x) (length y)) y done
  carried-out e = sym (passed_first [] (λ number place. (refused number place, y)) done (line_tests n kind (length x) (length y)) tt (sym e))
