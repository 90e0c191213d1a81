-- Document 02, Wish 4: "Put over 2^(27-d) the four add up to the residual exactly". Assumes nothing.
--   parts_add:      over any plan, at every place: the four parts together are 2^(7+s) times what the block has at that place
--   why-adds:       of an accepted call, and the inverse's call with the same shape and coefficients: that is accepted too, and the
--                   parts handed back are together 2^(27-d) times the number at that place of its output
--   long-why-adds:  the same of the calls of long numbers, with 2^(7+s)
--   nothing-clipped, long-nothing-clipped: where the inverse's rail count is 0, what clipping added is 0
use mathlib.Core.Path.{◌≡◌, refl, sym, ap, ◌∙◌}
use mathlib.Core.Bool.{Bool, false, not}
use mathlib.Core.List.{List, [], ◌∷◌, ◌++◌}
use Prim.Native.Nat.{ℕ, zero, suc, ◌+◌, ◌*◌, ◌-◌, ◌/◌, ◌%◌, ◌^◌, ◌<◌}
use native.Mathlib.Nat.{mul_comm, zero-mul, div-lt_iff_lt-mul}
use native.Mathlib.Omega.{arith}
use borrow.Author.Tests.{eq-eqb, not-false, ltb-true}
use lib.Dec.{eqb, ltb}
use lib.IntN.{ℤ, pos, ◌+ℤ◌, ◌*ℤ◌}
use lib.ListN.{length}
use Rattle.algebra.specs.Lists.{at}
use Rattle.algebra.specs.Refusals.{Test}
use Rattle.algebra.proofs.Lists.{block_at, every-place, column-of, row_of}
use Rattle.algebra.proofs.Refusals.{Clear, clear-split, clear-join, none-applies, clear}
use Rattle.meaning.specs.declared.Shape.{Shape}
use Rattle.meaning.specs.Shape.{is_depth}
use Rattle.meaning.specs.Plan.{Plan, plan_of, long_plan}
use Rattle.meaning.specs.Answer.{Outcome, accepted, refused, shape_tests, length_tests, input_test}
use Rattle.meaning.specs.Inverse.{residual, rails, inverse_block, plan_tests, plan_outcome, inverse_outcome, outside_test}
use Rattle.meaning.specs.Long.{long_shape_tests, long_outcome, beyond_test}
use Rattle.meaning.proofs.Cases.{depth-cases}
use Rattle.meaning.proofs.Parts.{four-parts, clippings-none}
use Rattle.meaning.proofs.NoRails.{no-rails}
use Rattle.why.specs.declared.answer.Parts.{Parts}
use Rattle.why.specs.Why.{parts_of, no_parts, place_test, why_tests, why_by, why_outcome, long_why_outcome}

-- the four parts together
abbrev pub together : Parts → ℤ
together r = r.exact +ℤ r.middle_roundings +ℤ r.clippings +ℤ r.last_rounding

-- ---- any plan
module _ (p : Plan) (c : List ℤ) (place : ℕ) (below : place < p.width * p.height) where
  -- what the block has at a place
  placed : at (inverse_block p c) place ≡ residual p c (place % p.width) (place / p.width)
  unfolding inverse_block
  placed =
      every-place p.width p.height (λ k. at (inverse_block p c) k ≡ residual p c (k % p.width) (k / p.width))
      (λ x y hx hy. block_at p.width p.height (residual p c) x y hx hy ∙ sym (λ t. residual p c (column-of {x = x} {w = p.width} y hx t) (row_of {x = x} {w = p.width} y hx t)))
      place (omega (arith, mul_comm p.width p.height))

  pub parts_add : together (parts_of p c place) ≡ pos (2 ^ (7 + p.last)) *ℤ at (inverse_block p c) place
  parts_add =
      sym (ap (λ (z : ℤ). pos (2 ^ (7 + p.last)) *ℤ z) placed ∙ four-parts p c (place % p.width) (place / p.width))

-- ---- an accepted call, by the tests of its shape and those between 8 and 15
module _ (shape between : List Test) (p : Plan) (c out : List ℤ) (place : ℕ) (room : length out ≡ p.width * p.height)
    (none : Clear (why_tests shape p c between place)) where
  past : Clear shape × Clear (input_test (p.width * p.height) (length c) ∷ outside_test p c ∷ (between ++ (place_test p place ∷ [])))
  past = clear-split shape (input_test (p.width * p.height) (length c) ∷ outside_test p c ∷ (between ++ (place_test p place ∷ []))) none

  more : Clear between × Clear (place_test p place ∷ [])
  more = clear-split between (place_test p place ∷ []) past.1.1.1

  below : place < p.width * p.height
  below = ltb-true place (p.width * p.height) (not-false (ltb place (p.width * p.height)) more.1.0)

  told : why_by (why_tests shape p c between place) p c place ≡ parts_of p c place
  told = none-applies no_parts (parts_of p c place) (why_tests shape p c between place) none

  -- the inverse with these tests
  done : plan_outcome (plan_tests shape p c out ++ between) p c out ≡ (accepted (rails p c), inverse_block p c)
  done =
      let lengths = length_tests (p.width * p.height) (length c) (length out) in
      let seven : not (eqb (length out) (p.width * p.height)) ≡ false = rw (eq-eqb (length out) (p.width * p.height) room) refl in
      none-applies (λ number place. (refused number place, out)) (accepted (rails p c), inverse_block p c) (plan_tests shape p c out ++ between)
      (clear-join (plan_tests shape p c out) between (clear-join (shape ++ lengths) (outside_test p c ∷ []) (clear-join shape lengths past.0 (past.1.0, (seven, tt))) (past.1.1.0, tt)) more.0)

  adds : together (why_by (why_tests shape p c between place) p c place) ≡ pos (2 ^ (7 + p.last)) *ℤ at (plan_outcome (plan_tests shape p c out ++ between) p c out).1 place
  adds = ap together told ∙ parts_add p c place below ∙ sym (ap (λ (o : Outcome). pos (2 ^ (7 + p.last)) *ℤ at o.1 place) done)

  clipped-none : (plan_outcome (plan_tests shape p c out ++ between) p c out).0.rails ≡ 0 → (why_by (why_tests shape p c between place) p c place).clippings ≡ pos 0
  clipped-none e =
      let rails-none : rails p c ≡ 0 = sym (ap (λ (o : Outcome). o.0.rails) done) ∙ e in
      let w : 0 < p.width = some p.width below in
      ap (λ (r : Parts). r.clippings) told
      ∙ clippings-none p c (place % p.width) (place / p.width)
      (λ i hi used. no-rails p c rails-none i (place / p.width) hi ((div-lt_iff_lt-mul w).1 (omega (arith, below, mul_comm p.width p.height))))
    where
      some : (w : ℕ) → place < w * p.height → 0 < w
      some zero l = absurd (omega (arith, zero-mul p.height))
      some (suc w) l = omega arith

-- ---- the call of 16-bit numbers
module _ (sh : Shape) (c out : List ℤ) (place : ℕ) (number : (why_outcome sh c place).number ≡ 0) (room : length out ≡ sh.width * sh.height) where
  why-clear : Clear (why_tests (shape_tests sh) (plan_of sh) c [] place)
  why-clear = clear (λ (r : Parts). r.number) no_parts (parts_of (plan_of sh) c place) (λ n place. refl) (why_tests (shape_tests sh) (plan_of sh) c [] place) tt number

  shifts : 7 + (20 - sh.depth) ≡ 27 - sh.depth
  shifts = let d = depth-cases sh.depth (not-false (is_depth sh.depth) why-clear.1.1.1.1.0) in omega arith

  pub why-adds : ((inverse_outcome sh c out).0.number ≡ 0) × (together (why_outcome sh c place) ≡ pos (2 ^ (27 - sh.depth)) *ℤ at (inverse_outcome sh c out).1 place)
  why-adds = (
    ap (λ (o : Outcome). o.0.number) (done (shape_tests sh) [] (plan_of sh) c out place room why-clear),
    rw shifts at (adds (shape_tests sh) [] (plan_of sh) c out place room why-clear),
  )

  pub nothing-clipped : (inverse_outcome sh c out).0.rails ≡ 0 → (why_outcome sh c place).clippings ≡ pos 0
  nothing-clipped = clipped-none (shape_tests sh) [] (plan_of sh) c out place room why-clear

-- ---- the call of long numbers
module _ (extended : Bool) (sh : Shape) (c out : List ℤ) (place : ℕ) (number : (long_why_outcome extended sh c place).number ≡ 0) (room : length out ≡ sh.width * sh.height) where
  abbrev q : Plan
  q = long_plan extended sh

  abbrev last : List Test
  last = beyond_test q c ∷ []

  long-clear : Clear (why_tests (long_shape_tests extended sh) q c last place)
  long-clear = clear (λ (r : Parts). r.number) no_parts (parts_of q c place) (λ n place. refl) (why_tests (long_shape_tests extended sh) q c last place) tt number

  pub long-why-adds : ((long_outcome extended sh c out).0.number ≡ 0) × (together (long_why_outcome extended sh c place) ≡ pos (2 ^ (7 + q.last)) *ℤ at (long_outcome extended sh c out).1 place)
  long-why-adds = (
    ap (λ (o : Outcome). o.0.number) (done (long_shape_tests extended sh) last q c out place room long-clear),
    adds (long_shape_tests extended sh) last q c out place room long-clear,
  )

  pub long-nothing-clipped : (long_outcome extended sh c out).0.rails ≡ 0 → (long_why_outcome extended sh c place).clippings ≡ pos 0
  long-nothing-clipped = clipped-none (long_shape_tests extended sh) last q c out place room long-clear
