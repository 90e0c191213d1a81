-- One block, forward and back: where 6 passes 7 cannot apply, so the forward's answer to an output as long as the input is the
-- block's (`forward-refused`, `forward-took`); the forward writes nothing outside the kept part, so the inverse refuses nothing
-- (`back`). Assumes nothing.
use mathlib.Core.Path.{◌≡◌, refl, sym, ap, ◌∙◌, subst}
use mathlib.Core.Bool.{Bool, true, false, cond, not, ◌&&◌, and-false}
use mathlib.Core.List.{List, [], ◌∷◌, ◌++◌}
use Prim.Native.Nat.{ℕ, ◌+◌, ◌*◌, ◌-◌, ◌^◌, ◌≤◌, ◌<◌, min}
use native.Mathlib.Nat.{mul_comm}
use native.Mathlib.Omega.{arith}
use borrow.Author.Tests.{eqb-true, not-false, le-ltb}
use lib.Dec.{eqb, ltb}
use lib.IntN.{ℤ, pos, nat_abs}
use lib.ListN.{length, take, length-append}
use Rattle.algebra.specs.Sum.{sumℕ}
use Rattle.algebra.specs.Lists.{at}
use Rattle.algebra.specs.Refusals.{first_of}
use Rattle.algebra.proofs.Lists.{block-length, block_at, column-of, row_of, every-place, part_same}
use Rattle.algebra.proofs.First.{first_past}
use Rattle.algebra.proofs.Refusals.{Clear, clear-split, none-applies, clear, side_by_side}
use Rattle.meaning.specs.declared.Shape.{Shape}
use Rattle.meaning.specs.declared.Answer.{Answer}
use Rattle.meaning.specs.Shape.{is_size, is_depth}
use Rattle.meaning.specs.Plan.{plan_of}
use Rattle.meaning.specs.Taken.{Taken, NoneAbove}
use Rattle.meaning.specs.Answer.{Outcome, refused, accepted, shape_tests, input_test}
use Rattle.meaning.specs.Inverse.{residual, inverse_block, outside, first_outside, inverse_outcome}
use Rattle.meaning.specs.Forward.{column_value, coefficient, forward_block, too_large_test, forward_outcome}
use Rattle.meaning.proofs.AcceptedCalls.{no-refusal, shape-clear, elements-in, inverse-done, without-7}
use Rattle.meaning.proofs.Small.{block_in, none-too-large}
use Rattle.meaning.proofs.Stages.{residual-in}
use Rattle.forward_and_back.specs.Trip.{elements, trip_tests, trip_answer, rail_count, returned, apart, greatest, largest, squares}

-- ---- a block that is not refused
pub record Took (sh : Shape) (r : List ℤ) : Type 0 where
  pub taken : Taken sh
  pub long : length r ≡ elements sh
  pub small : NoneAbove (2 ^ sh.depth - 1) r
  pub answer : trip_answer sh r ≡ accepted (rail_count sh r)

module _ (sh : Shape) (r : List ℤ) where
  took-clear : Clear (trip_tests sh r) → Took sh r
  unfolding trip_answer
  took-clear c =
      let parts = clear-split (shape_tests sh) (input_test (elements sh) (length r) ∷ too_large_test sh r ∷ []) c in
      record {
        taken = shape-clear (is_size sh.width) (is_size sh.height) (is_depth sh.depth) sh parts.0;
        long = eqb-true (length r) (elements sh) (not-false (eqb (length r) (elements sh)) parts.1.0);
        small = none-too-large sh r parts.1.1.0;
        answer = none-applies refused (accepted (rail_count sh r)) (trip_tests sh r) c;
      }

  pub took : (trip_answer sh r).number ≡ 0 → Took sh r
  unfolding trip_answer
  took e = took-clear (clear (λ (a : Answer). a.number) refused (accepted (rail_count sh r)) (λ n place. refl) (trip_tests sh r) tt e)

  -- ---- the forward
  module _ (out : List ℤ) (long : length out ≡ min (length r) 1024) (a : Answer) (l : List ℤ) (e : ◌≡◌ {A = Outcome} (a, l) (forward_outcome sh r out)) where
    abbrev refuse : ℕ → ℕ → Outcome
    refuse number place = (refused number place, out)

    abbrev done : Outcome
    done = (accepted 0, forward_block sh r)

    -- its outcome is that of the block's tests
    same : ◌≡◌ {A = Outcome} (a, l) (first_of (trip_tests sh r) refuse done)
    same =
        e ∙ without-7 refuse done (is_size sh.width) (is_size sh.height) (is_depth sh.depth) sh (elements sh) (length r) (length out)
        (λ t q. omega (arith, long, elements-in sh t, q)) (too_large_test sh r ∷ [])

    pub forward-refused : (a.number ≡ 0 → ⊥) → a ≡ trip_answer sh r
    unfolding trip_answer
    forward-refused n =
        ap (λ (o : Outcome). o.0) same
        ∙ side_by_side refuse done refused (accepted (rail_count sh r)) (λ o a. (o.0.number ≡ 0 → ⊥) → o.0 ≡ a) (λ _ _ _. refl) [] [] (trip_tests sh r) (λ _ n. absurd (n refl))
        (λ z. n (ap (λ (o : Outcome). o.0.number) same ∙ z))

    pub forward-took : a.number ≡ 0 → Took sh r × (l ≡ forward_block sh r)
    forward-took z =
        let c = no-refusal (trip_tests sh r) out done tt (sym (ap (λ (o : Outcome). o.0.number) same) ∙ z) in
        (took-clear c, ap (λ (o : Outcome). o.1) (same ∙ none-applies refuse done (trip_tests sh r) c))

  -- ---- the way back: "Coefficients outside the kept rows and columns are written 0"
  forward-long : length (forward_block sh r) ≡ elements sh
  unfolding forward_block
  forward-long = block-length sh.width sh.height (coefficient sh r) ∙ mul_comm sh.height sh.width

  pub returned-long : length (returned sh r) ≡ elements sh
  unfolding returned inverse_block
  returned-long = block-length sh.width sh.height (residual (plan_of sh) (forward_block sh r)) ∙ mul_comm sh.height sh.width

  kept-or-zero : (z : ℤ) (b : Bool) → not (eqb (nat_abs (cond b z (pos 0))) 0) && not b ≡ false
  kept-or-zero z true = and-false (not (eqb (nat_abs z) 0))
  kept-or-zero z false = refl

  inside : (x y : ℕ) → x < sh.width → y < sh.height → outside (plan_of sh) (x + y * sh.width) (at (forward_block sh r) (x + y * sh.width)) ≡ false
  unfolding forward_block coefficient
  inside x y h l =
      rw (block_at sh.width sh.height (coefficient sh r) x y h l, column-of y h, row_of y h)
      (kept-or-zero (column_value sh r x y) (ltb x sh.columns && ltb y sh.rows))

  none-outside : ltb (first_outside (plan_of sh) (forward_block sh r)) (length (forward_block sh r)) ≡ false
  none-outside =
      let every = every-place sh.width sh.height (λ k. outside (plan_of sh) k (at (forward_block sh r) k) ≡ false) inside in
      let start : (k : ℕ) → 0 + k ≡ k = λ k. omega arith in
      let past : first_outside (plan_of sh) (forward_block sh r) ≡ 0 + length (forward_block sh r)
      = first_past (outside (plan_of sh)) (forward_block sh r) 0 (λ k h. rw (start k) (every k (omega (arith, forward-long, mul_comm sh.height sh.width, h)))) in
      le-ltb (first_outside (plan_of sh) (forward_block sh r)) (length (forward_block sh r)) (omega (arith, past))

  pub back : Took sh r → (out : List ℤ) → length out ≡ min (length r) 1024 → (a : Answer) (l : List ℤ) → ◌≡◌ {A = Outcome} (a, l) (inverse_outcome sh (forward_block sh r) out)
      → (a ≡ trip_answer sh r) × (l ≡ returned sh r)
  unfolding returned rail_count
  back t out long a l e =
      let room : length out ≡ elements sh = omega (arith, long, t.long, elements-in sh t.taken) in
      let done = e ∙ inverse-done sh (forward_block sh r) out (record { taken = t.taken; long = forward-long; room = room }, none-outside) in
      (ap (λ (o : Outcome). o.0) done ∙ sym t.answer, ap (λ (o : Outcome). o.1) done)

  -- "No sum leaves 32 bits": a returned residual is at most 2^18 in size
  pub returned-in : Taken sh → NoneAbove 262144 (returned sh r)
  unfolding returned inverse_block
  returned-in t = block_in sh.width sh.height (residual (plan_of sh) (forward_block sh r)) 262144 (λ x y h l. residual-in sh t (forward_block sh r) x y h)

pub few : (sh : Shape) (r : List ℤ) → Took sh r → length r ≤ 1024
few sh r t = omega (arith, t.long, elements-in sh t.taken)

-- ---- what came back, read from the start of the buffer that it was put into
module _ (sh : Shape) (r : List ℤ) (t : Took sh r) (n : ℕ) (room : n ≡ min (length r) 1024) (l rest : List ℤ) (e : l ≡ returned sh r) where
  all : length l ≡ n
  all = omega (arith, ap length e, returned-long sh r, t.long, elements-in sh t.taken, room)

  pub part-fit : n ≤ length (l ++ rest)
  part-fit = simp length-append (omega (arith, all))

  part-is : take n (l ++ rest) ≡ returned sh r
  part-is =
      let whole : n ≡ n - 0 = omega arith in
      ap (λ (k : ℕ). take k (l ++ rest)) whole ∙ part_same n l rest all ∙ e

  pub part-long : length r ≡ length (take n (l ++ rest))
  part-long = omega (arith, t.long, ap length part-is, returned-long sh r)

  pub part_in : NoneAbove 262144 (take n (l ++ rest))
  part_in = subst (NoneAbove 262144) (sym part-is) (returned-in sh r t.taken)

  pub largest-is : greatest (length r) (apart r (take n (l ++ rest))) ≡ largest sh r
  unfolding largest
  largest-is = λ i. greatest (t.long i) (apart r (part-is i))

  pub squares-is : sumℕ (length r) (λ k. apart r (take n (l ++ rest)) k * apart r (take n (l ++ rest)) k) ≡ squares sh r
  unfolding squares
  squares-is = λ i. sumℕ (t.long i) (λ k. apart r (part-is i) k * apart r (part-is i) k)
