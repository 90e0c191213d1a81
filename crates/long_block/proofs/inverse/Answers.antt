-- `inverse` meets its contract: the refusals in their order, then the stages. Assumes nothing.
use native.Mathlib.Omega.{arith}
use mathlib.Core.Path.{◌≡◌, sym, ap, ◌∙◌}
use mathlib.Core.List.{List, [], ◌∷◌, ◌++◌}
use Prim.Native.Nat.{ℕ, ◌*◌, ◌≤◌, ◌<◌}
use native.Mathlib.Nat.{mul_comm, mul-le-mul_right}
use borrow.Author.Tests.{ltb-true, ltb-false}
use lib.Dec.{ltb}
use lib.ListN.{length}
use Rattle.algebra.specs.Refusals as tests
use Rattle.algebra.proofs.Found.{found_some, found_none}
use Rattle.algebra.proofs.Refusals.{refused-first}
use Rattle.meaning.specs.declared.Answer.{Answer}
use Rattle.meaning.specs.declared.refusal.Refusal.{Refusal}
use Rattle.meaning.specs.Refusal.{refusal_number}
use Rattle.meaning.specs.Plan.{range_of, reach, long_plan}
use Rattle.meaning.specs.Taken.{TakenLongBlock}
use Rattle.meaning.specs.Answer.{Outcome, refused, accepted, length_tests}
use Rattle.meaning.specs.Inverse.{rails, inverse_block, first_outside}
use Rattle.meaning.specs.Long.{first_beyond, long_shape_tests}
use Rattle.meaning.proofs.KeptPart.{columns-kept, rows-kept}
use Rattle.meaning.proofs.AcceptedCalls.{few, long-block-taken}
use Rattle.meaning.proofs.LongRules.{reach-in}
use Rattle.layout.proofs.Inside.{live-part, kept-part}
use Rattle.long_block.proofs.inverse.Goals as goal
use Rattle.long_block.proofs.inverse.Goals.{Start, In_default}
use Rattle.meaning.proofs.RefusalNumbers.{above}

taken : (c : In_default) → TakenLongBlock c.args.extended c.args.shape c.args.coefficients.now c.args.residuals.now
taken c = long-block-taken c.args.shape c.args.coefficients.now c.args.residuals.now c.args.extended (sym c.in_default.ensures)

turned : (c : In_default) → length c.args.coefficients.now ≡ c.args.shape.height * c.args.shape.width
turned c = (taken c).long ∙ mul_comm c.args.shape.width c.args.shape.height

pub returns-in-Err : goal.returns-in-Err
returns-in-Err c =
    let s = c.args in
    let l = s.coefficients.now in
    let p = long_plan s.extended s.shape in
    let place = first_outside p l in
    let far = first_beyond (range_of (reach s.extended s.shape.depth)) l in
    let seven = long_shape_tests s.extended s.shape ++ length_tests (s.shape.width * s.shape.height) (length l) (length s.residuals.now) in
    let rest : List tests.Test = record { applies = ltb place (length l); number = 8; place = place } ∷ record { applies = ltb far (length l); number = 27; place = far } ∷ [] in
    let refuse : ℕ → ℕ → Outcome = λ number place. (refused number place, s.residuals.now) in
    let done : Outcome = (accepted (rails p l), inverse_block p l) in
    let n = above c.in-Err.refusal in
    let e : refusal_number c.in-Err.refusal ≡ tests.number_of seven = c.in-Err.ensures in
    ap (λ (a : Answer). (a, s.residuals.now)) (c.at.ensures ∙ ap (λ (n : ℕ). refused n 0) e)
    ∙ sym (refused-first rest refuse done seven tt (λ z. omega (arith, n, e, z)))

pub overflow_cast-place : goal.overflow_cast-place
overflow_cast-place c =
    let l = c.args.coefficients.now in
    let f = found_some (length l) (first_outside (long_plan c.args.extended c.args.shape) l) c.in-Some.place c.in-Some.ensures in
    omega (arith, f.0, ltb-true _ _ f.1, few c.args.shape (taken (goal.at.overflow_cast-place c).In_default))

pub first_beyond-requires : goal.first_beyond-requires
first_beyond-requires c = omega (arith, c.reach_of-reach.ensures, reach-in c.args.extended c.args.shape.depth)

pub overflow_cast-place-in-Some-first_beyond : goal.overflow_cast-place-in-Some-first_beyond
overflow_cast-place-in-Some-first_beyond c =
    let l = c.args.coefficients.now in
    let f = found_some (length l) (first_beyond (range_of c.reach_of-reach.result) l) c.in-Some-first_beyond.place c.in-Some-first_beyond.ensures in
    omega (arith, f.0, ltb-true _ _ f.1, few c.args.shape (taken (goal.at.overflow_cast-place-in-Some-first_beyond c).In_default))

pub column_pairs-columns-requires : goal.column_pairs-columns-requires
column_pairs-columns-requires c =
    let D = (goal.at.column_pairs-columns-requires c).In_default in
    ((taken D).taken.width, omega (arith, turned D, mul-le-mul_right c.args.shape.width c.row_pairs-rows.ensures.0))

pub stages-requires : goal.stages-requires
stages-requires c =
    let D = (goal.at.stages-requires c).In_default in
    let t = taken D in
    let sh = c.args.shape in
    let l = c.args.coefficients.now in
    let p = long_plan c.args.extended sh in
    let none : length l ≤ first_outside p l = ltb-false _ _ (found_none (length l) (first_outside p l) c.in_default-first_outside.ensures) in
    record {
      block = t;
      live = live-part sh.width sh.height (2 * c.column_pairs-columns.result) (2 * c.row_pairs-rows.result) l c.column_pairs-columns.ensures.0 c.row_pairs-rows.ensures.0 c.row_pairs-rows.ensures.1 c.column_pairs-columns.ensures.1;
      kept = kept-part p l t.long (columns-kept sh t.taken).within (rows-kept sh t.taken).within none;
    }
