-- `later` meets its contract: 8, 27 and 15 in their order, then the parts. Assumes nothing.
use native.Mathlib.Omega.{arith}
use borrow.Author.Tests.{lt-ltb, le-ltb, ltb-true, ltb-false}
use mathlib.Core.Path.{◌≡◌, sym, ap, ◌∙◌}
use Rattle.std.specs.Prelude.{Option}
use mathlib.Core.Bool.{Bool, true, false}
use mathlib.Core.List.{List, [], ◌∷◌}
use Prim.Native.Nat.{ℕ, ◌*◌, ◌≤◌}
use lib.Dec.{ltb}
use lib.ListN.{length}
use lib.IntN.{ℤ}
use Rattle.algebra.specs.Refusals.{first_of}
use Rattle.algebra.specs.First.{found}
use Rattle.algebra.proofs.Found.{found_some, found_none}
use Rattle.meaning.specs.declared.Shape.{Shape}
use Rattle.meaning.specs.Plan.{Plan, range_of, reach, long_plan}
use Rattle.meaning.specs.Inverse.{first_outside, outside_test}
use Rattle.meaning.specs.Long.{first_beyond, beyond_test}
use Rattle.meaning.proofs.AcceptedCalls.{elements-in, few}
use Rattle.meaning.proofs.KeptPart.{columns-kept, rows-kept}
use Rattle.meaning.proofs.LongCall.{none-beyond}
use Rattle.meaning.proofs.LongRules.{reach-in}
use Rattle.layout.proofs.Inside.{kept-part}
use Rattle.why.specs.declared.answer.Parts.{Parts}
use Rattle.why.specs.Why.{parts_of, no_parts, place_test}
use Rattle.why.proofs.answer.later.Goals as goal
use Rattle.why.proofs.answer.later.Goals.{In_default, In_default-first_beyond}

-- past 8, and past 27
module _ (extended : Bool) (sh : Shape) (l : List ℤ) (place : ℕ) where
  abbrev p : Plan
  p = long_plan extended sh

  abbrev outside : ℕ
  outside = first_outside p l

  abbrev far : ℕ
  far = first_beyond p.range l

  abbrev answer : Parts
  answer = first_of (outside_test p l ∷ beyond_test p l ∷ place_test p place ∷ []) no_parts (parts_of p l place)

  past8 : ltb outside (length l) ≡ false → answer ≡ first_of (beyond_test p l ∷ place_test p place ∷ []) no_parts (parts_of p l place)
  past8 e = rw e

  past27 : ltb outside (length l) ≡ false → ltb far (length l) ≡ false → answer ≡ first_of (place_test p place ∷ []) no_parts (parts_of p l place)
  past27 e f = past8 e ∙ rw f

  -- what the hunt for 27 hands back, by the reach that it was given
  by_reach : {r : ℕ} (o : Option ℕ) → r ≡ reach extended sh.depth → o ≡ found (length l) (first_beyond (range_of r) l) → o ≡ found (length l) far
  by_reach o e f = f ∙ ap (λ (r : ℕ). found (length l) (first_beyond (range_of r) l)) e

pub first_outside-requires : goal.first_outside-requires
first_outside-requires c = c.requires.long

pub overflow_cast-first : goal.overflow_cast-first
overflow_cast-first c =
    let l = c.args.c.now in
    let f = found_some (length l) (outside c.args.extended c.args.shape l c.args.place) c.in-Some.first c.in-Some.ensures in
    omega (arith, f.0, ltb-true _ _ f.1, few c.args.shape c.requires)

pub returns-in-Some : goal.returns-in-Some
returns-in-Some c =
    let l = c.args.c.now in
    let f = found_some (length l) (outside c.args.extended c.args.shape l c.args.place) c.in-Some.first c.in-Some.ensures in
    c.refused.ensures ∙ ap (λ (n : ℕ). no_parts 8 n) f.0 ∙ sym (rw f.1)

pub first_beyond-requires : goal.first_beyond-requires
first_beyond-requires c = omega (arith, c.reach_of.ensures, reach-in c.args.extended c.args.shape.depth)

-- what each hunt said
no-outside : (c : goal.In_default) → ltb (outside c.args.extended c.args.shape c.args.c.now c.args.place) (length c.args.c.now) ≡ false
no-outside c = found_none (length c.args.c.now) (outside c.args.extended c.args.shape c.args.c.now c.args.place) c.in_default.ensures

pub overflow_cast-far : goal.overflow_cast-far
overflow_cast-far c =
    let l = c.args.c.now in
    let f = found_some (length l) (first_beyond (range_of c.reach_of.result) l) c.in-Some-first_beyond.far c.in-Some-first_beyond.ensures in
    omega (arith, f.0, ltb-true _ _ f.1, few c.args.shape c.requires)

pub returns-in-Some-first_beyond : goal.returns-in-Some-first_beyond
returns-in-Some-first_beyond c =
    let s = c.args in
    let l = s.c.now in
    let f = found_some (length l) (far s.extended s.shape l s.place) c.in-Some-first_beyond.far (by_reach s.extended s.shape l s.place _ c.reach_of.ensures c.in-Some-first_beyond.ensures) in
    c.refused-in-Some-first_beyond.ensures ∙ ap (λ (n : ℕ). no_parts 27 n) f.0
    ∙ sym (past8 s.extended s.shape l s.place (no-outside (goal.at.returns-in-Some-first_beyond c).In_default) ∙ rw f.1)

pub overflow_mul-shape : goal.overflow_mul-shape
overflow_mul-shape c = omega (arith, elements-in c.args.shape c.requires.taken)

no-far : (c : goal.In_default-first_beyond) → ltb (far c.args.extended c.args.shape c.args.c.now c.args.place) (length c.args.c.now) ≡ false
no-far c =
    found_none (length c.args.c.now) (far c.args.extended c.args.shape c.args.c.now c.args.place)
    (by_reach c.args.extended c.args.shape c.args.c.now c.args.place _ c.reach_of.ensures c.in_default-first_beyond.ensures)

pub told-requires : goal.told-requires
told-requires c =
    let sh = c.args.shape in
    let l = c.args.c.now in
    let t = c.requires in
    let D = goal.at.told-requires c in (
      record {
        passed = t;
        kept = kept-part (long_plan c.args.extended sh) l t.long (columns-kept sh t.taken).within (rows-kept sh t.taken).within (ltb-false _ _ (no-outside D.In_default));
        small = none-beyond (reach c.args.extended sh.depth) l (no-far D.In_default-first_beyond);
      },
      c.if-place-shape.true,
    )

pub returns-then-place-shape : goal.returns-then-place-shape
returns-then-place-shape c =
    let s = c.args in
    let D = goal.at.returns-then-place-shape c in
    let t = lt-ltb s.place (s.shape.width * s.shape.height) c.if-place-shape.true in
    c.told.ensures ∙ sym (past27 s.extended s.shape s.c.now s.place (no-outside D.In_default) (no-far D.In_default-first_beyond) ∙ rw t)

pub returns : goal.returns
returns c =
    let s = c.args in
    let D = goal.at.returns c in
    let t = le-ltb s.place (s.shape.width * s.shape.height) c.if-place-shape.false in
    c.refused-2.ensures ∙ sym (past27 s.extended s.shape s.c.now s.place (no-outside D.In_default) (no-far D.In_default-first_beyond) ∙ rw t)
