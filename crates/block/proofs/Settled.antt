-- What a call answers at each of its ends: turned down by 1 to 5, 20, 6 and 7, turned down by the hunt, and accepted. Assumes nothing.
use Rattle.std.specs.Prelude.{None, Some}
use native.Mathlib.Omega.{arith}
use mathlib.Core.Path.{◌≡◌, sym, ap, ◌∙◌}
use mathlib.Core.Bool.{false}
use mathlib.Core.List.{List, [], ◌∷◌, ◌++◌}
use Prim.Native.Nat.{ℕ, ◌+◌, ◌*◌, ◌/◌, ◌%◌, ◌<◌}
use borrow.Author.Tests.{ltb-true, ltb-false}
use lib.Dec.{ltb}
use lib.IntN.{ℤ}
use lib.ListN.{length}
use Rattle.algebra.specs.Refusals.{Test, first_of, number_of}
use Rattle.algebra.specs.First.{found}
use Rattle.algebra.proofs.Refusals.{refused-first, passed_first}
use Rattle.algebra.proofs.Found.{found_some, found_none}
use Rattle.meaning.specs.declared.Answer.{Answer}
use Rattle.meaning.specs.declared.Shape.{Shape}
use Rattle.meaning.specs.declared.refusal.Refusal.{Refusal}
use Rattle.meaning.specs.Refusal.{refusal_number}
use Rattle.meaning.specs.Shape.{is_long_depth}
use Rattle.meaning.specs.Answer.{Outcome, refused, accepted, shape_tests, length_tests}
use Rattle.meaning.specs.Long.{long_shape_tests}
use Rattle.meaning.specs.Plan.{plan_of}
use Rattle.meaning.specs.Inverse.{rails, inverse_block, first_outside, inverse_outcome}
use Rattle.meaning.specs.Forward.{first_too_large, forward_block, forward_outcome}
use Rattle.meaning.specs.Taken.{TakenBlock}
use Rattle.meaning.proofs.AcceptedCalls.{few, block-taken}
use Rattle.meaning.proofs.KeptPart.{columns-kept, rows-kept}
use Rattle.inverse_stage.specs.Given.{GivenStages}
use Rattle.layout.specs.Live.{Live, LiveColumns}
use Rattle.layout.proofs.Inside.{live-part, kept-part}
use Rattle.block.specs.Answered.{answer_of}
use Rattle.meaning.proofs.RefusalNumbers.{above}

-- a number has one digit of 32 bits
below : (refusal : Refusal) → refusal_number refusal < 32
below refusal = grind arith

-- an answer of which number and place stand in one number
refused-is : (number : ℕ) → number < 4294967296 → answer_of number 0 ≡ refused number 0
refused-is number h =
    let p : number % 4294967296 ≡ number = omega arith in
    let q : number / 4294967296 ≡ 0 = omega arith in
    (λ i. record { number = p i; place = q i; rails = 0 })

place_is : (place : ℕ) → answer_of (place * 4294967296 + 8) 0 ≡ refused 8 place
place_is place =
    let p : (place * 4294967296 + 8) % 4294967296 ≡ 8 = omega arith in
    let q : (place * 4294967296 + 8) / 4294967296 ≡ place = omega arith in
    (λ i. record { number = p i; place = q i; rails = 0 })

-- the number that 1 to 5, 20, 6 and 7 hand back of a block of so many inputs and outputs
abbrev pub first_number : Shape → ℕ → ℕ → ℕ
first_number sh input output = number_of (long_shape_tests false sh ++ length_tests (sh.width * sh.height) input output)

module _ (sh : Shape) (c out : List ℤ) where
  abbrev first : List Test
  first = shape_tests sh ++ length_tests (sh.width * sh.height) (length c) (length out)

  abbrev refuse : ℕ → ℕ → Outcome
  refuse number place = (refused number place, out)

  passed : 0 ≡ first_number sh (length c) (length out) → number_of first ≡ 0
  unfolding is_long_depth
  passed n = sym n

  pub taken : 0 ≡ first_number sh (length c) (length out) → TakenBlock sh c out
  taken n = block-taken sh c out (passed n)

  -- a place that was found in a block that was taken
  pub few-places : 0 ≡ first_number sh (length c) (length out) → (place p : ℕ) → Some p ≡ found (length c) place → p < 1048576
  few-places n place p f =
      let g = found_some (length c) place p f in
      omega (arith, ltb-true place (length c) g.1, g.0, few sh (taken n))

  -- a refusal of 1 to 5, 20, 6 and 7, before whatever tests come after them
  turned : (us : List Test) (done : Outcome) (refusal : Refusal) → refusal_number refusal ≡ first_number sh (length c) (length out)
      → (refused (refusal_number refusal) 0, out) ≡ first_of (first ++ us) refuse done
  unfolding is_long_depth
  turned us done refusal n =
      let p = above refusal in
      ap (λ (n : ℕ). refuse n 0) n ∙ sym (refused-first us refuse done first tt (λ e. omega (arith, p, n ∙ e)))

  -- ---- the inverse
  abbrev outside : ℕ
  outside = first_outside (plan_of sh) c

  abbrev eight : List Test
  eight = record { applies = ltb outside (length c); number = 8; place = outside } ∷ []

  abbrev inversed : Outcome
  inversed = (accepted (rails (plan_of sh) c), inverse_block (plan_of sh) c)

  pub inverse-turned : (refusal : Refusal) → refusal_number refusal ≡ first_number sh (length c) (length out) → ◌≡◌ {A = Outcome} (answer_of (refusal_number refusal) 0, out) (inverse_outcome sh c out)
  inverse-turned refusal n =
      let b = below refusal in
      ap (λ (a : Answer). (a, out)) (refused-is (refusal_number refusal) (omega arith)) ∙ turned eight inversed refusal n

  pub inverse-found : 0 ≡ first_number sh (length c) (length out) → (p : ℕ) → Some p ≡ found (length c) outside → ◌≡◌ {A = Outcome} (answer_of (p * 4294967296 + 8) 0, out) (inverse_outcome sh c out)
  inverse-found n p f =
      let g = found_some (length c) outside p f in
      ap (λ (a : Answer). (a, out)) (place_is p) ∙ ap (λ (n : ℕ). refuse 8 n) g.0 ∙ sym (passed_first eight refuse inversed first tt (passed n) ∙ rw g.1)

  pub inverse-done : 0 ≡ first_number sh (length c) (length out) → None ≡ found (length c) outside → {rail : ℕ} {l : List ℤ} → rail ≡ rails (plan_of sh) c → l ≡ inverse_block (plan_of sh) c
      → ◌≡◌ {A = Outcome} (answer_of 0 rail, l) (inverse_outcome sh c out)
  inverse-done n f p q =
      let g = found_none (length c) outside f in
      (λ i. (accepted (p i), q i)) ∙ sym (passed_first eight refuse inversed first tt (passed n) ∙ rw g)

  -- what both ways are given
  pub given : 0 ≡ first_number sh (length c) (length out) → {rows columns : ℕ} → Live c sh.width sh.height rows → LiveColumns c sh.width rows columns → None ≡ found (length c) outside → GivenStages sh rows columns c out
  given n {rows} {columns} r k f =
      let w = taken n in
      record {
        block = w;
        size-rows = r.size;
        size-columns = k.size;
        live = live-part sh.width sh.height columns rows c k.within r.within r.clear k.clear;
        kept = kept-part (plan_of sh) c w.long (columns-kept sh w.taken).within (rows-kept sh w.taken).within (ltb-false outside (length c) (found_none (length c) outside f));
      }

  -- ---- the forward
  abbrev large : ℕ
  large = first_too_large sh c

  abbrev nine : List Test
  nine = record { applies = ltb large (length c); number = 9; place = large } ∷ []

  abbrev made : Outcome
  made = (accepted 0, forward_block sh c)

  pub forward-turned : (refusal : Refusal) → refusal_number refusal ≡ first_number sh (length c) (length out) → ◌≡◌ {A = Outcome} (refused (refusal_number refusal) 0, out) (forward_outcome sh c out)
  forward-turned refusal n = turned nine made refusal n

  pub forward-found : 0 ≡ first_number sh (length c) (length out) → (p : ℕ) → Some p ≡ found (length c) large → ◌≡◌ {A = Outcome} (refused 9 p, out) (forward_outcome sh c out)
  forward-found n p f =
      let g = found_some (length c) large p f in
      ap (λ (n : ℕ). refuse 9 n) g.0 ∙ sym (passed_first nine refuse made first tt (passed n) ∙ rw g.1)

  pub forward-done : 0 ≡ first_number sh (length c) (length out) → None ≡ found (length c) large → ◌≡◌ {A = Outcome} made (forward_outcome sh c out)
  forward-done n f = let g = found_none (length c) large f in sym (passed_first nine refuse made first tt (passed n) ∙ rw g)
