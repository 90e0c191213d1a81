-- What a call that hands back number 0 has passed: every test of its list (`line_taken` of a line, `inverse-accepted` and
-- `forward-accepted` of a block); what an inverse call that has passed them hands back (`inverse-done`); and where 7 can be left out
-- of the tests (`without-7`).
use mathlib.Core.Path.{◌≡◌, refl}
use mathlib.Core.Bool.{Bool, false, not}
use mathlib.Core.List.{List, [], ◌∷◌, ◌++◌}
use Prim.Native.Nat.{ℕ, ◌*◌, ◌≤◌}
use native.Mathlib.Nat.{mul-le-mul}
use native.Mathlib.Omega.{arith}
use borrow.Author.Tests.{eqb-true, not-false, eq-eqb}
use lib.Dec.{T, eqb, ltb}
use lib.IntN.{ℤ}
use lib.ListN.{length}
use Rattle.algebra.specs.Refusals.{Test, first_of, number_of}
use Rattle.algebra.proofs.Refusals.{Clear, clear-split, numbered, clear, no_number, left_out}
use Rattle.meaning.specs.declared.Shape.{Shape}
use Rattle.meaning.specs.Shape.{is_size, is_kind, is_depth, is_long_depth, keeps}
use Rattle.meaning.specs.Plan.{plan_of}
use Rattle.meaning.specs.Taken.{TakenBy, Taken, TakenBlockBy, TakenBlock, TakenLongBlock, TakenLine, NoneAbove}
use Rattle.meaning.specs.Answer.{Outcome, outcome, accepted, refused, test, shape_tests_by, shape_tests, input_test, length_tests, line_tests}
use Rattle.meaning.specs.Inverse.{rails, inverse_block, first_outside, outside_test, inverse_tests, inverse_outcome}
use Rattle.meaning.specs.Long.{long_shape_tests}
use Rattle.meaning.specs.Forward.{most_residual, forward_block, too_large_test, forward_tests, forward_outcome}
use Rattle.meaning.proofs.Cases.{size_in}
use Rattle.meaning.proofs.Small.{none-too-large}

-- by the outcome of a call
pub no-refusal : (ts : List Test) (out : List ℤ) (done : Outcome) → T (numbered ts) → (outcome ts out done).0.number ≡ 0 → Clear ts
no-refusal ts out done = clear (λ (o : Outcome). o.0.number) (λ number place. (refused number place, out)) done (λ n place. refl) ts

-- ---- 1 to 5 and 20
pub shape-clear : (wide high deep : Bool) (sh : Shape) → Clear (shape_tests_by wide high deep sh) → TakenBy wide high deep sh
shape-clear wide high deep sh (w, (h, (k, (v, (d, (m, _)))))) =
    record {
      width = not-false wide w;
      height = not-false high h;
      horizontal = not-false (is_kind sh.horizontal) k;
      vertical = not-false (is_kind sh.vertical) v;
      depth = not-false deep d;
      kept = not-false (keeps sh) m;
    }

pub shape-taken : (sh : Shape) → number_of (shape_tests sh) ≡ 0 → Taken sh
shape-taken sh e = shape-clear (is_size sh.width) (is_size sh.height) (is_depth sh.depth) sh (no_number (shape_tests sh) tt e)

-- ---- 6 and 7
lengths-clear : (n input output : ℕ) → Clear (length_tests n input output) → (input ≡ n) × (output ≡ n)
lengths-clear n input output (i, (o, _)) = (eqb-true input n (not-false (eqb input n) i), eqb-true output n (not-false (eqb output n) o))

-- ---- 1, 3, 6 and 7 of a line
pub line_taken : (n kind input output : ℕ) → number_of (line_tests n kind input output) ≡ 0 → TakenLine n kind input output
line_taken n kind input output e = taken_of (no_number (line_tests n kind input output) tt e)
  where
    taken_of : Clear (line_tests n kind input output) → TakenLine n kind input output
    taken_of (s, (k, l)) =
        let both = lengths-clear n input output l in
        record { size = not-false (is_size n) s; known = not-false (is_kind kind) k; long = both.0; room = both.1 }

-- ---- blocks
-- none has more than 1,024 numbers
module _ {deep : Bool} (sh : Shape) where
  pub elements-in : TakenBy (is_size sh.width) (is_size sh.height) deep sh → sh.width * sh.height ≤ 1024
  elements-in t = mul-le-mul (size_in sh.width t.width) (size_in sh.height t.height)

  pub few : {input output : List ℤ} → TakenBlockBy deep sh input output → length input ≤ 1024
  few t = omega (arith, t.long, elements-in t.taken)

module _ (sh : Shape) (input output : List ℤ) where
  abbrev elements : ℕ
  elements = sh.width * sh.height

  abbrev lengths : List Test
  lengths = length_tests elements (length input) (length output)

  -- 1 to 5, 20, 6 and 7, and then more
  module _ (extended : Bool) where
    pub block-clear : (ts : List Test) → Clear (long_shape_tests extended sh ++ lengths ++ ts) → TakenLongBlock extended sh input output × Clear ts
    block-clear ts c =
        let first = clear-split (long_shape_tests extended sh) (lengths ++ ts) c in
        let then = clear-split lengths ts first.1 in
        let both = lengths-clear elements (length input) (length output) then.0 in
        (record { taken = shape-clear (is_size sh.width) (is_size sh.height) (is_long_depth extended sh.depth) sh first.0; long = both.0; room = both.1 }, then.1)

    pub long-block-taken : number_of (long_shape_tests extended sh ++ lengths) ≡ 0 → TakenLongBlock extended sh input output
    long-block-taken e = (block-clear [] (no_number (long_shape_tests extended sh ++ lengths) tt e)).0

  -- with the switch off
  pub block-taken : number_of (shape_tests sh ++ lengths) ≡ 0 → TakenBlock sh input output
  unfolding is_long_depth
  block-taken = long-block-taken false

  -- .. and no coefficient stands outside the kept part
  pub inverse-accepted : (inverse_outcome sh input output).0.number ≡ 0 → TakenBlock sh input output × (ltb (first_outside (plan_of sh) input) (length input) ≡ false)
  unfolding is_long_depth
  inverse-accepted e =
      let c = block-clear false (outside_test (plan_of sh) input ∷ []) (no-refusal (inverse_tests sh input output) output (accepted (rails (plan_of sh) input), inverse_block (plan_of sh) input) tt e) in
      (c.0, c.1.0)

  -- .. and no residual is too large
  pub forward-accepted : (forward_outcome sh input output).0.number ≡ 0 → TakenBlock sh input output × NoneAbove (most_residual sh) input
  unfolding is_long_depth
  forward-accepted e =
      let c = block-clear false (too_large_test sh input ∷ []) (no-refusal (forward_tests sh input output) output (accepted 0, forward_block sh input) tt e) in
      (c.0, none-too-large sh input c.1.0)

  -- number 0, place 0, the rail count, and the block
  pub inverse-done : TakenBlock sh input output × (ltb (first_outside (plan_of sh) input) (length input) ≡ false)
      → inverse_outcome sh input output ≡ (accepted (rails (plan_of sh) input), inverse_block (plan_of sh) input)
  inverse-done (a, e) =
      let s = a.taken in
      rw (s.width, s.height, s.horizontal, s.vertical, s.depth, s.kept, eq-eqb (length input) elements a.long, eq-eqb (length output) elements a.room, e)

-- ---- 7 never applies to an output that is as long as it has to be wherever the tests before 7 pass
module _ {A : Type 0} (refused : ℕ → ℕ → A) (done : A) (wide high deep : Bool) (sh : Shape) (n input output : ℕ) (same : TakenBy wide high deep sh → input ≡ n → output ≡ n) where
  pub without-7 : (ts : List Test)
      → first_of (shape_tests_by wide high deep sh ++ length_tests n input output ++ ts) refused done ≡ first_of (shape_tests_by wide high deep sh ++ (input_test n input ∷ ts)) refused done
  without-7 ts =
      left_out refused done (shape_tests_by wide high deep sh ++ (input_test n input ∷ [])) (test (not (eqb output n)) 7) ts
      (λ c.
      let six = clear-split (shape_tests_by wide high deep sh) (input_test n input ∷ []) c in
      rw (eq-eqb output n (same (shape-clear wide high deep sh six.0) (eqb-true input n (not-false (eqb input n) six.1.0)))) refl)
