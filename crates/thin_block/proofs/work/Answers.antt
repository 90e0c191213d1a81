-- `work` meets its contract: the refusals in their order, then one stage or two. Assumes nothing.
use native.Mathlib.Omega.{arith}
use mathlib.Core.Path.{◌≡◌, sym, ap, ◌∙◌}
use mathlib.Core.Bool.{true, false, cond}
use mathlib.Core.List.{List, [], ◌∷◌, ◌++◌}
use Prim.Native.Nat.{ℕ, ◌*◌, ◌≤◌, ◌<◌}
use native.Mathlib.Nat.{le_refl}
use borrow.Author.Tests.{ltb-true, ltb-false}
use lib.IntN.{ℤ}
use lib.ListN.{length, take}
use lib.Seq.{length-take-le}
use Rattle.algebra.specs.Refusals as tests
use Rattle.algebra.proofs.Found.{found_some, found_none}
use Rattle.algebra.proofs.Refusals.{refused-first}
use Rattle.meaning.specs.declared.refusal.Refusal.{Refusal}
use Rattle.meaning.specs.Refusal.{refusal_number}
use Rattle.meaning.specs.Plan.{plan_of}
use Rattle.meaning.specs.Inverse.{first_outside, outside_test}
use Rattle.meaning.proofs.KeptPart.{columns-kept}
use Rattle.thin_block.specs.declared.Thin.{Thin}
use Rattle.thin_block.specs.Thin.{one_stage, thin_shape_tests, area_tests, Areas, areas_stay, after_one, after_two}
use Rattle.thin_block.proofs.Sides.{two-sides}
use Rattle.thin_block.proofs.Passed as passing
use Rattle.thin_block.proofs.work.Goals as goal
use Rattle.thin_block.proofs.work.Goals.{In_default}
use Rattle.meaning.proofs.RefusalNumbers.{above}

passed : (c : In_default) → passing.Passed c.args.shape c.args.coefficients.now c.args.first.now c.args.second.now
passed c = passing.passed c.args.shape c.args.coefficients.now c.args.first.now c.args.second.now (sym c.in_default.ensures)

-- the areas have room, and so the stretch that is lent of either is as long as the block
stretch : (n m : ℕ) (l : List ℤ) → n ≡ m → n ≤ length l → length (take n l) ≡ m
stretch n m l e h = length-take-le n l h ∙ e

pub returns-in-Err : goal.returns-in-Err
returns-in-Err c =
    let a = c.args in
    let l = a.coefficients.now in
    let n = c.in-Err.refusal in
    let eight = thin_shape_tests a.shape ++ area_tests (a.shape.width * a.shape.height) (length l) (length a.first.now) (length a.second.now) in
    let last : List tests.Test = outside_test (plan_of a.shape) l ∷ [] in
    let refuse : ℕ → ℕ → Areas = areas_stay a.first.now a.second.now in
    let done : Areas = cond (one_stage a.shape) (after_one a.shape l a.first.now a.second.now) (after_two a.shape l a.first.now a.second.now) in
    let p = above n in
    let e : refusal_number n ≡ tests.number_of eight = c.in-Err.ensures in
    ap (λ (t : Thin). record { answer = t; first = a.first.now; second = a.second.now }) c.refused.ensures
    ∙ ap (λ (n : ℕ). refuse n 0) e
    ∙ sym (refused-first last refuse done eight tt (λ z. omega (arith, p, e, z)))

-- nothing is known of the block yet
pub first_outside-requires : goal.first_outside-requires
first_outside-requires c =
    let sh = c.args.shape in
    let p = passed (goal.at.first_outside-requires c).In_default in (
      (p.long, (columns-kept sh p.sides).within),
      record { narrow = le_refl sh.width; low = le_refl sh.height; right = λ x y l g. absurd (omega arith); below = λ x y g l v. absurd (omega arith) },
    )

pub overflow_cast-place : goal.overflow_cast-place
overflow_cast-place c =
    let a = c.args in
    let l = a.coefficients.now in
    let f = found_some (length l) (first_outside (plan_of a.shape) l) c.in-Some.place c.in-Some.ensures in
    omega (arith, f.0, ltb-true _ _ f.1, passing.few a.shape l a.first.now a.second.now (passed (goal.at.overflow_cast-place c).In_default))

pub single-requires : goal.single-requires
single-requires c =
    let a = c.args in
    let l = a.coefficients.now in
    let p = passed (goal.at.single-requires c).In_default in
    let none : length l ≤ first_outside (plan_of a.shape) l = ltb-false _ _ (found_none (length l) (first_outside (plan_of a.shape) l) c.in_default-first_outside.ensures) in
    record {
      taken = p.sides;
      thin = sym c.one_stage.ensures ∙ c.if-one_stage.true;
      long = p.long;
      room = stretch _ _ a.first.now p.long (omega (arith, p.long, p.first));
      kept = passing.kept a.shape l a.first.now a.second.now p none;
    }

pub two_stages-rails-requires : goal.two_stages-rails-requires
two_stages-rails-requires c =
    let a = c.args in
    let l = a.coefficients.now in
    let p = passed (goal.at.two_stages-rails-requires c).In_default in
    let none : length l ≤ first_outside (plan_of a.shape) l = ltb-false _ _ (found_none (length l) (first_outside (plan_of a.shape) l) c.in_default-first_outside.ensures) in
    record {
      block = record {
        taken = two-sides a.shape p.sides (sym c.one_stage.ensures ∙ c.if-one_stage.false);
        long = p.long;
        room = stretch _ _ a.second.now p.long (omega (arith, p.long, p.second));
      };
      room = stretch _ _ a.first.now p.long (omega (arith, p.long, p.first));
      kept = passing.kept a.shape l a.first.now a.second.now p none;
    }
