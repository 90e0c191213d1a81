-- Document 02, Wish 14: what an accepted call of long numbers was handed and hands back (`long-accepted`, `long-inside`, `long-done`), and
-- demand 3 of it: |2^(7+s) · residual − exact| ≤ 64 · (A + 2^s) where the clip altered nothing (`long-demand3`,
-- `long-demand3-call`). Assumes nothing.
use mathlib.Core.Path.{◌≡◌, refl, sym, ap, ◌∙◌, subst}
use mathlib.Core.Bool.{Bool, false, ◌||◌, true≢false}
use mathlib.Core.List.{List, [], ◌∷◌}
use Prim.Native.Nat.{ℕ, ◌+◌, ◌*◌, ◌^◌, ◌≤◌, ◌<◌}
use native.Mathlib.Omega.{arith}
use borrow.Author.Tests.{eq-eqb, ltb-false}
use lib.Dec.{ltb}
use lib.IntN.{ℤ, pos, nat_abs, ◌-ℤ◌, ◌*ℤ◌}
use lib.ListN.{length}
use lib.Pow.{pow_pos}
use lib.Signed.{lt_z, ◌≤ℤ◌}
use Rattle.algebra.specs.Clip.{Range}
use Rattle.algebra.specs.Lists.{at}
use Rattle.algebra.proofs.Clip.{order-cases}
use Rattle.algebra.proofs.First.{first-before}
use Rattle.algebra.proofs.Order.{le_parts, lt-parts, parts-abs}
use Rattle.algebra.proofs.Refusals.{clear-split}
use Rattle.meaning.specs.declared.Shape.{Shape}
use Rattle.meaning.specs.Plan.{Plan, range_of, long_plan}
use Rattle.meaning.specs.Taken.{TakenLongBlock, NoneAbove}
use Rattle.meaning.specs.Answer.{Outcome, accepted}
use Rattle.meaning.specs.Inverse.{rails, inverse_block, first_outside, outside_test, plan_tests}
use Rattle.meaning.specs.Long.{beyond, first_beyond, beyond_test, long_shape_tests, long_tests, long_outcome}
use Rattle.meaning.specs.Exact.{exact, weight_sizes}
use Rattle.meaning.proofs.Small.{within-places}
use Rattle.meaning.proofs.AcceptedCalls.{no-refusal, block-clear}
use Rattle.meaning.proofs.NearExact.{near-block}
use Rattle.meaning.proofs.LongRules.{last-in}

-- ---- a coefficient of the range
module _ (r : Range) (z : ℤ) where
  pub inside : beyond r z ≡ false → (r.low ≤ℤ z) × (z ≤ℤ r.high)
  inside =
      order-cases z r.low (λ (b : Bool). b || lt_z r.high z ≡ false → (r.low ≤ℤ z) × (z ≤ℤ r.high)) (λ _ e. absurd (true≢false e))
      (λ low. order-cases r.high z (λ (b : Bool). b ≡ false → (r.low ≤ℤ z) × (z ≤ℤ r.high)) (λ _ e. absurd (true≢false e)) (λ high _. (low, high)))

  pub not_beyond : r.low ≤ℤ z → z ≤ℤ r.high → beyond r z ≡ false
  not_beyond low high =
      order-cases z r.low (λ (b : Bool). b || lt_z r.high z ≡ false) (λ l. absurd (omega (arith, le_parts low, lt-parts l)))
      (λ _. order-cases r.high z (λ (b : Bool). b ≡ false) (λ l. absurd (omega (arith, le_parts high, lt-parts l))) (λ _. refl))

-- where the first that is beyond is past the end, none is
in-range : (r : Range) (c : List ℤ) → ltb (first_beyond r c) (length c) ≡ false → (k : ℕ) → k < length c → (r.low ≤ℤ at c k) × (at c k ≤ℤ r.high)
in-range r c e k h =
    let b : 0 + k < first_beyond r c = omega (arith, ltb-false (first_beyond r c) (length c) e) in
    inside r (at c k) (first-before (λ k z. beyond r z) c 0 k h b)

-- so none is above 2^R in size
pub none-beyond : (r : ℕ) (c : List ℤ) → ltb (first_beyond (range_of r) c) (length c) ≡ false → NoneAbove (2 ^ r) c
none-beyond r c e =
    within-places (2 ^ r) c
    (λ k h. let w = in-range (range_of r) c e k h in
    parts-abs (at c k) (2 ^ r) (omega (arith, le_parts w.1, pow_pos r)) (omega (arith, le_parts w.0, pow_pos r)))

module _ (extended : Bool) (sh : Shape) (c out : List ℤ) where
  abbrev p : Plan
  p = long_plan extended sh

  pub record LongPassed : Type 0 where
    pub block : TakenLongBlock extended sh c out
    pub kept : ltb (first_outside p c) (length c) ≡ false
    pub range : ltb (first_beyond p.range c) (length c) ≡ false

  -- number 0 says that no test applied
  pub long-accepted : (long_outcome extended sh c out).0.number ≡ 0 → LongPassed
  long-accepted e =
      let eight = plan_tests (long_shape_tests extended sh) p c out in
      let both = clear-split eight (beyond_test p c ∷ []) (no-refusal (long_tests extended sh c out) out (accepted (rails p c), inverse_block p c) tt e) in
      let more = block-clear sh c out extended (outside_test p c ∷ []) both.0 in
      record { block = more.0; kept = more.1.0; range = both.1.0 }

  -- "27 for a coefficient outside the range": of a call with number 0 each is inside
  pub long-inside : (long_outcome extended sh c out).0.number ≡ 0 → (k : ℕ) → k < length c → (p.range.low ≤ℤ at c k) × (at c k ≤ℤ p.range.high)
  long-inside e = in-range p.range c (long-accepted e).range

  -- number 0, place 0, the rail count, and the block
  pub long-done : LongPassed → long_outcome extended sh c out ≡ (accepted (rails p c), inverse_block p c)
  long-done t =
      let s = t.block.taken in
      rw (s.width, s.height, s.horizontal, s.vertical, s.depth, s.kept, eq-eqb (length c) (sh.width * sh.height) t.block.long, eq-eqb (length out) (sh.width * sh.height) t.block.room, t.kept, t.range)

  module _ (number : (long_outcome extended sh c out).0.number ≡ 0) (x y : ℕ) (hx : x < sh.width) (hy : y < sh.height) where
    pub long-demand3 : rails p c ≡ 0
        → nat_abs (pos (2 ^ (7 + p.last)) *ℤ at (inverse_block p c) (x + y * sh.width) -ℤ exact p c x y) ≤ 64 * (weight_sizes p x + 2 ^ p.last)
    long-demand3 none =
        let d = last-in extended sh.depth (long-accepted number).block.taken.depth in
        near-block p c (omega arith) x y none hx hy

    -- of what the call itself hands back
    pub long-demand3-call : (long_outcome extended sh c out).0.rails ≡ 0
        → nat_abs (pos (2 ^ (7 + p.last)) *ℤ at (long_outcome extended sh c out).1 (x + y * sh.width) -ℤ exact p c x y) ≤ 64 * (weight_sizes p x + 2 ^ p.last)
    long-demand3-call none =
        let done = long-done (long-accepted number) in
        subst
        (λ (o : Outcome). nat_abs (pos (2 ^ (7 + p.last)) *ℤ at o.1 (x + y * sh.width) -ℤ exact p c x y) ≤ 64 * (weight_sizes p x + 2 ^ p.last))
        (sym done) (long-demand3 (sym (ap (λ (o : Outcome). o.0.rails) done) ∙ none))
