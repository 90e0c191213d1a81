-- `parts` meets its contract: the coefficients in 32 bits are told of as long numbers are with the switch off. Assumes nothing.
use Rattle.std.proofs.Common.{arith, ◌≡◌, sym, ap, ◌∙◌, subst, ℕ, ◌<◌, ◌≤◌, false, List, [], ◌∷◌, length, length-append, ℤ}
use Rattle.algebra.specs.Refusals as tests
use Rattle.algebra.proofs.Lists.{part-long, part_same}
use Rattle.meaning.specs.declared.Shape.{Shape}
use Rattle.meaning.specs.declared.refusal.Refusal.{Refusal}
use Rattle.meaning.specs.Refusal.{refusal_number}
use Rattle.meaning.specs.Shape.{is_long_depth}
use Rattle.meaning.specs.Plan.{Plan, plan_of, long_plan}
use Rattle.meaning.specs.Long.{beyond_test}
use Rattle.meaning.specs.Inverse.{outside_test}
use Rattle.meaning.proofs.AcceptedCalls.{few, long-block-taken}
use Rattle.why.specs.declared.answer.Parts.{Parts}
use Rattle.why.specs.Why.{parts_of, no_parts, place_test, long_why_outcome}
use Rattle.why.specs.Work.{Passed}
use Rattle.why.proofs.Passing.{seven, refuses, passes}
use Rattle.meaning.proofs.RefusalNumbers.{above}
use Rattle.why.proofs.Off.{why-off}
use Rattle.why.proofs.parts.Goals as goal

-- past 1 to 5, 20 and 6
module _ (sh : Shape) (l : List ℤ) (place : ℕ) (clear : 0 ≡ tests.number_of (seven false sh l)) where
  abbrev p : Plan
  p = long_plan false sh

  abbrev later : List ℤ → Parts
  later m = tests.first_of (outside_test p m ∷ beyond_test p m ∷ place_test p place ∷ []) no_parts (parts_of p m place)

  taken : Passed false sh l
  taken = long-block-taken sh l l false (sym clear)

  short : length l ≤ 1024
  short = few sh taken

  past : long_why_outcome false sh l place ≡ later l
  past = passes false sh l no_parts (parts_of p l place) (outside_test p l ∷ beyond_test p l ∷ place_test p place ∷ []) (sym clear)

pub returns-in-Err : goal.returns-in-Err
unfolding is_long_depth
returns-in-Err c =
    let s = c.args in
    let l = s.coefficients.now in
    let p = plan_of s.shape in
    let m = above c.in-Err.refusal in
    let e : refusal_number c.in-Err.refusal ≡ tests.number_of (seven false s.shape l) = c.in-Err.ensures in
    c.refused.ensures ∙ ap (λ (n : ℕ). no_parts n 0) e
    ∙ sym (refuses false s.shape l no_parts (parts_of p l s.place) (outside_test p l ∷ place_test p s.place ∷ []) (λ z. omega (arith, m, e, z)))

pub slice_bounds-wide-end : goal.slice_bounds-wide-end
slice_bounds-wide-end c = omega (arith, short c.args.shape c.args.coefficients.now c.args.place c.in_default.ensures, c.room-wide.ensures)

pub widen-requires : goal.widen-requires
widen-requires c =
    let l = c.args.coefficients.now in
    sym (part-long (length l) c.room-wide.result (omega (arith, short c.args.shape l c.args.place c.in_default.ensures, c.room-wide.ensures)))

-- the part that is lent again holds the coefficients
pub slice_bounds-later-end : goal.slice_bounds-later-end
slice_bounds-later-end c = simp length-append (omega (arith, ap length c.widen.ensures.0))

pub later-requires : goal.later-requires
later-requires c =
    let l = c.args.coefficients.now in
    subst (Passed false c.args.shape) (sym (part_same (length l) _ _ (ap length c.widen.ensures.0) ∙ c.widen.ensures.0)) (taken c.args.shape l c.args.place c.in_default.ensures)

pub returns : goal.returns
returns c =
    let sh = c.args.shape in
    let l = c.args.coefficients.now in
    subst (λ (m : List ℤ). c.later.result ≡ later sh l c.args.place c.in_default.ensures m) (part_same (length l) _ _ (ap length c.widen.ensures.0) ∙ c.widen.ensures.0) c.later.ensures
    ∙ sym (past sh l c.args.place c.in_default.ensures) ∙ why-off sh l c.widen.ensures.1 c.args.place
