-- What a call has passed that nothing refuses: a side of 1 or a size each, enough numbers, enough room, and no coefficient outside the
-- kept part. `accepted`: by its number; `either_way`: it is that or refused. Assumes nothing.
use mathlib.Core.Path.{◌≡◌, refl}
use mathlib.Core.Bool.{cond}
use mathlib.Core.List.{List, [], ◌∷◌, ◌++◌}
use Prim.Native.Nat.{ℕ, ◌*◌, ◌≤◌}
use native.Mathlib.Omega.{arith}
use native.Mathlib.Nat.{mul-le-mul}
use borrow.Author.Tests.{eqb-true, not-false, ltb-false}
use lib.Dec.{eqb, ltb}
use lib.IntN.{ℤ}
use lib.ListN.{length}
use Rattle.algebra.specs.Refusals.{Test, number_of}
use Rattle.algebra.proofs.Refusals.{Clear, clear-split, none-applies, clear, no_number, side_by_side}
use Rattle.meaning.specs.declared.Shape.{Shape}
use Rattle.meaning.specs.Shape.{is_depth}
use Rattle.meaning.specs.Plan.{plan_of}
use Rattle.meaning.specs.Inverse.{first_outside, outside_test}
use Rattle.meaning.proofs.Cases.{neither}
use Rattle.meaning.proofs.AcceptedCalls.{shape-clear}
use Rattle.meaning.proofs.KeptPart.{columns-kept, rows-kept}
use Rattle.layout.specs.Part.{Part}
use Rattle.layout.proofs.Inside.{kept-part}
use Rattle.thin_block.specs.Thin.{is_side, one_stage, thin_shape_tests, area_tests, thin_tests, Areas, areas_stay, after_one, after_two, thin_outcome}
use Rattle.thin_block.specs.Given.{TakenSides}
use Rattle.thin_block.proofs.Sides.{side-in}

module _ (sh : Shape) (c a b : List ℤ) where
  abbrev elements : ℕ
  elements = sh.width * sh.height

  abbrev eight : List Test
  eight = thin_shape_tests sh ++ area_tests elements (length c) (length a) (length b)

  pub record Passed : Type 0 where
    pub sides : TakenSides sh
    pub long : length c ≡ elements
    pub first : elements ≤ length a
    pub second : elements ≤ length b

  passed-by : Clear (thin_shape_tests sh) → Clear (area_tests elements (length c) (length a) (length b)) → Passed
  passed-by s (n, (r, _)) =
      let no = neither (ltb (length a) elements) (ltb (length b) elements) r in
      record {
        sides = shape-clear (is_side sh.width sh.height) (is_side sh.height sh.width) (is_depth sh.depth) sh s;
        long = eqb-true (length c) elements (not-false (eqb (length c) elements) n);
        first = ltb-false (length a) elements no.0;
        second = ltb-false (length b) elements no.1;
      }

  -- and no coefficient stands outside
  pub record TakenThin : Type 0 where
    pub past : Passed
    pub inside : length c ≤ first_outside (plan_of sh) c

  all-clear : Clear (thin_tests sh c a b) → TakenThin
  all-clear e =
      let first = clear-split (thin_shape_tests sh) (area_tests elements (length c) (length a) (length b) ++ (outside_test (plan_of sh) c ∷ [])) e in
      let then = clear-split (area_tests elements (length c) (length a) (length b)) (outside_test (plan_of sh) c ∷ []) first.1 in
      record { past = passed-by first.0 then.0; inside = ltb-false (first_outside (plan_of sh) c) (length c) then.1.0 }

  abbrev done : Areas
  done = cond (one_stage sh) (after_one sh c a b) (after_two sh c a b)

  pub either_way : (P : Areas → Type 0) → ((number place : ℕ) → P (areas_stay a b number place)) → (TakenThin → P done) → P (thin_outcome sh c a b)
  either_way P f g = side_by_side (areas_stay a b) done (areas_stay a b) done (λ o _. P o) f [] [] (thin_tests sh c a b) (λ e. g (all-clear e))

  pub accepted : (thin_outcome sh c a b).answer.number ≡ 0 → TakenThin × (thin_outcome sh c a b ≡ done)
  accepted z =
      let e = clear (λ (o : Areas). o.answer.number) (areas_stay a b) done (λ n place. refl) (thin_tests sh c a b) tt z in
      (all-clear e, none-applies (areas_stay a b) done (thin_tests sh c a b) e)

  pub passed : number_of eight ≡ 0 → Passed
  passed e =
      let both = clear-split (thin_shape_tests sh) (area_tests elements (length c) (length a) (length b)) (no_number eight tt e) in
      passed-by both.0 both.1

  module _ (p : Passed) where
    -- few numbers
    pub few : length c ≤ 1024
    few =
        let m : sh.width * sh.height ≤ 32 * 32 = mul-le-mul (side-in sh.width sh.height p.sides.width) (side-in sh.height sh.width p.sides.height) in
        omega (arith, p.long)

    -- zero outside of the kept part
    pub kept : length c ≤ first_outside (plan_of sh) c → Part sh.width sh.height sh.columns sh.rows c
    kept l = kept-part (plan_of sh) c p.long (columns-kept sh p.sides).within (rows-kept sh p.sides).within l
