-- "Refusals ..: those of the inverse without 7, then 15": at a place below w*h, number and place are those of an inverse whose
-- output is as long as its input, which 7 never refuses. Assumes nothing.
use mathlib.Core.Path.{◌≡◌, refl, ap, ◌∙◌}
use mathlib.Core.Bool.{Bool, false}
use mathlib.Core.List.{List, [], ◌∷◌, ◌++◌}
use Prim.Native.Nat.{ℕ, ◌*◌, ◌<◌}
use borrow.Author.Tests.{lt-ltb}
use lib.IntN.{ℤ}
use lib.ListN.{length}
use Rattle.algebra.proofs.Refusals.{left_out, side_by_side}
use Rattle.meaning.specs.declared.Shape.{Shape}
use Rattle.meaning.specs.Shape.{is_long_depth}
use Rattle.meaning.specs.Plan.{Plan, plan_of, long_plan}
use Rattle.meaning.specs.Answer.{Outcome, accepted, refused, shape_tests, input_test}
use Rattle.meaning.specs.Inverse.{rails, inverse_block, inverse_tests, inverse_outcome, outside_test}
use Rattle.meaning.specs.Long.{long_shape_tests, long_tests, long_outcome, beyond_test}
use Rattle.why.specs.declared.answer.Parts.{Parts}
use Rattle.why.specs.Why.{parts_of, no_parts, place_test, why_outcome, long_why_outcome}
use Rattle.why.proofs.Passing.{six}

abbrev told : Parts → ℕ × ℕ
told r = (r.number, r.place)

abbrev handed : Outcome → ℕ × ℕ
handed o = (o.0.number, o.0.place)

module _ (sh : Shape) (c : List ℤ) (place : ℕ) (below : place < sh.width * sh.height) where
  abbrev elements : ℕ
  elements = sh.width * sh.height

  -- 15 does not apply
  inside : (p : Plan) → p.width * p.height ≡ elements → (place_test p place).applies ≡ false
  inside p e = rw (e, lt-ltb place elements below) refl

  pub why-refuses : told (why_outcome sh c place) ≡ handed (inverse_outcome sh c c)
  unfolding is_long_depth
  why-refuses =
      let p = plan_of sh in
      let parts = parts_of p c place in
      ap told
      (left_out no_parts parts (shape_tests sh ++ (input_test elements (length c) ∷ outside_test p c ∷ [])) (place_test p place) [] (λ _. inside p refl)
      ∙ six false sh c no_parts parts (outside_test p c ∷ []))
      ∙ side_by_side no_parts parts (λ number place. (refused number place, c)) (accepted (rails p c), inverse_block p c) (λ r o. told r ≡ handed o) (λ number place. refl) [] [] (inverse_tests sh c c) (λ _. refl)

  pub long-why-refuses : (extended : Bool) → told (long_why_outcome extended sh c place) ≡ handed (long_outcome extended sh c c)
  long-why-refuses extended =
      let p = long_plan extended sh in
      let last = beyond_test p c ∷ [] in
      let parts = parts_of p c place in
      ap told
      (left_out no_parts parts (long_shape_tests extended sh ++ (input_test elements (length c) ∷ outside_test p c ∷ last)) (place_test p place) [] (λ _. inside p refl)
      ∙ six extended sh c no_parts parts (outside_test p c ∷ last))
      ∙ side_by_side no_parts parts (λ number place. (refused number place, c)) (accepted (rails p c), inverse_block p c) (λ r o. told r ≡ handed o) (λ number place. refl) [] [] (long_tests extended sh c c) (λ _. refl)
