-- Two stages are those of the inverse of document 01: the answer and the stretch of the second area are its outcome (`as-inverse`), and
-- demand 3 holds as there (`two-demand3`). Assumes nothing.
use mathlib.Core.Path.{◌≡◌, sym, ap, ◌∙◌, subst}
use mathlib.Core.Bool.{false}
use mathlib.Core.List.{List}
use Prim.Native.Nat.{ℕ, ◌+◌, ◌*◌, ◌-◌, ◌^◌, ◌≤◌, ◌<◌}
use native.Mathlib.Omega.{arith}
use native.Mathlib.Nat.{mul_comm}
use borrow.Author.Tests.{le-ltb}
use lib.Dec.{ltb}
use lib.IntN.{ℤ, pos, nat_abs, ◌-ℤ◌, ◌*ℤ◌}
use lib.ListN.{length, take}
use Rattle.algebra.specs.Lists.{at}
use Rattle.algebra.proofs.Lists.{place_in}
use Rattle.meaning.specs.declared.Shape.{Shape}
use Rattle.meaning.specs.declared.Answer.{Answer}
use Rattle.meaning.specs.Plan.{plan_of}
use Rattle.meaning.specs.Taken.{TakenBlock}
use Rattle.meaning.specs.Answer as answers
use Rattle.meaning.specs.Inverse.{rails, first_outside, inverse_outcome}
use Rattle.meaning.specs.Exact.{exact, weight_sizes}
use Rattle.meaning.proofs.AcceptedCalls.{inverse-done}
use Rattle.meaning.proofs.NearExact.{demand3}
use Rattle.thin_block.specs.Thin.{one_stage, Areas, thin_outcome}
use Rattle.thin_block.proofs.Sides.{two-sides}
use Rattle.thin_block.proofs.Areas.{taken, after_two_lem, block-stands, residual-stands}

module _ (sh : Shape) (c a b : List ℤ) (number : (thin_outcome sh c a b).answer.number ≡ 0) (two : one_stage sh ≡ false) where
  abbrev o : Areas
  o = thin_outcome sh c a b

  -- the answer, without the area
  abbrev answer : Answer
  answer = record { number = o.answer.number; place = o.answer.place; rails = o.answer.rails }

  module _ (out : List ℤ) (room : length out ≡ sh.width * sh.height) where
    passed : TakenBlock sh c out × (ltb (first_outside (plan_of sh) c) (length c) ≡ false)
    passed =
        let t = taken sh c a b number in (
          record { taken = two-sides sh t.past.sides two; long = t.past.long; room = room },
          le-ltb (first_outside (plan_of sh) c) (length c) t.inside,
        )

    pub as-inverse : ◌≡◌ {A = answers.Outcome} (answer, take (sh.width * sh.height) o.second) (inverse_outcome sh c out)
    as-inverse = (λ i. (told i, block-stands sh c a b number two i)) ∙ sym (inverse-done sh c out passed)
      where
        told : answer ≡ answers.accepted (rails (plan_of sh) c)
        told = ap (λ (o : Areas). record { number = o.answer.number; place = o.answer.place; rails = o.answer.rails }) (after_two_lem sh c a b number two)

  -- of every residual that it leaves, where the rail count is 0
  pub two-demand3 : o.answer.rails ≡ 0 → (x y : ℕ) → x < sh.width → y < sh.height
      → nat_abs (pos (2 ^ (27 - sh.depth)) *ℤ at o.second (x + y * sh.width) -ℤ exact (plan_of sh) c x y) ≤ 64 * (weight_sizes (plan_of sh) x + 2 ^ (20 - sh.depth))
  two-demand3 none x y hx hy =
      let k = x + y * sh.width in
      let long = (taken sh c a b number).past.long in
      let inside : k < sh.width * sh.height = omega (arith, mul_comm sh.width sh.height, place_in {x = x} {y = y} {w = sh.width} {h = sh.height} hx hy) in
      let accepted = ap (λ (o : answers.Outcome). o.0.number) (inverse-done sh c c (passed c long)) in
      let counted = ap (λ (o : Areas). o.answer.rails) (after_two_lem sh c a b number two) in
      subst (λ (z : ℤ). nat_abs (pos (2 ^ (27 - sh.depth)) *ℤ z -ℤ exact (plan_of sh) c x y) ≤ 64 * (weight_sizes (plan_of sh) x + 2 ^ (20 - sh.depth))) (sym (residual-stands sh c a b number two k inside))
      (demand3 sh c c accepted x y hx hy (sym counted ∙ none))
