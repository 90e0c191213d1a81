-- Demand 3: how far a residual can be from the exact double sum. Assumes nothing. Over any plan, so any range and any last shift
-- s ≥ 1:
--   near-exact:          |2^(7+s) · residual − exact| ≤ 64 · (A + 2^s), where the clip altered nothing in the kept columns of
--                        the row
--   near-unaltered:      the same, where the clip altered nothing in the block
--   near-block:          the same of every number of the block, where its rail count is 0
-- and over an accepted call, in the words of document 01, s being 20 − d:
--   demand3:             of an accepted call with rail count 0, for every residual of the block that it hands back:
--                        |2^(27−d) · residual − exact| ≤ 64 · (A + 2^(20−d))
--   demand3-unaltered:   the same of an accepted call in which the clip altered nothing
--   demand3-inner:       the same of one in which no middle value stands at either end of the range
--   demand3-call:        the same of the rail count and the output in the outcome of the call itself
--   less-than-one-level: at d = 10 and w ≤ 16 that difference is below 2^17
use mathlib.Core.Path.{◌≡◌, sym, ap, ◌∙◌, subst}
use mathlib.Core.List.{List}
use Prim.Native.Nat.{ℕ, ◌+◌, ◌*◌, ◌-◌, ◌^◌, ◌≤◌, ◌<◌}
use native.Mathlib.Omega.{arith}
use lib.IntN.{ℤ, pos, nat_abs, ◌-ℤ◌, ◌*ℤ◌}
use Rattle.algebra.specs.Lists.{at}
use Rattle.algebra.proofs.Order.{abs-add}
use Rattle.algebra.proofs.Lists.{block_at}
use Rattle.meaning.specs.declared.Shape.{Shape}
use Rattle.meaning.specs.Plan.{Plan, plan_of}
use Rattle.meaning.specs.Taken.{Taken}
use Rattle.meaning.specs.Answer.{Outcome}
use Rattle.meaning.specs.Inverse.{column_sum, rounded, middle_at, residual, rails, inverse_block, inverse_outcome}
use Rattle.meaning.specs.Exact.{exact, weight_sizes, middle_roundings, last_rounding}
use Rattle.meaning.proofs.AcceptedCalls.{inverse-accepted, inverse-done}
use Rattle.meaning.proofs.Cases.{depth-cases}
use Rattle.meaning.proofs.Parts.{middles-near, last-near, two-parts}
use Rattle.meaning.proofs.NoRails.{Unaltered, Inner, no-rails, inner-unaltered}
use Rattle.meaning.proofs.Narrow.{narrow-sizes}
use Rattle.meaning.proofs.Stages.{taken-sized}

module _ (p : Plan) (c : List ℤ) (s : 1 ≤ p.last) (x y : ℕ) where
  pub near-exact : ((i : ℕ) → i < p.columns → middle_at p c i y ≡ rounded (column_sum p c i y))
      → nat_abs (pos (2 ^ (7 + p.last)) *ℤ residual p c x y -ℤ exact p c x y) ≤ 64 * (weight_sizes p x + 2 ^ p.last)
  near-exact same =
      let m = middle_roundings p c x y in
      let l = last_rounding p c x y in
      rw (two-parts p c x y same) (omega (arith, abs-add m l, middles-near p c x y, last-near p c x y s))

  pub near-unaltered : Unaltered p c → y < p.height
      → nat_abs (pos (2 ^ (7 + p.last)) *ℤ residual p c x y -ℤ exact p c x y) ≤ 64 * (weight_sizes p x + 2 ^ p.last)
  near-unaltered same hy = near-exact (λ i hi. same i y hi hy)

  -- the residual in the block
  pub element : x < p.width → y < p.height → at (inverse_block p c) (x + y * p.width) ≡ residual p c x y
  unfolding inverse_block
  element hx hy = block_at p.width p.height (residual p c) x y hx hy

  pub near-block : rails p c ≡ 0 → x < p.width → y < p.height
      → nat_abs (pos (2 ^ (7 + p.last)) *ℤ at (inverse_block p c) (x + y * p.width) -ℤ exact p c x y) ≤ 64 * (weight_sizes p x + 2 ^ p.last)
  near-block none hx hy = rw (element hx hy) (near-unaltered (no-rails p c none) hy)

-- of an accepted call: column x of row y
module _ (sh : Shape) (c out : List ℤ) (number : (inverse_outcome sh c out).0.number ≡ 0) (x y : ℕ) (hx : x < sh.width) (hy : y < sh.height) where
  taken : Taken sh
  taken = (inverse-accepted sh c out number).0.taken

  shifts : (1 ≤ 20 - sh.depth) × (7 + (20 - sh.depth) ≡ 27 - sh.depth)
  shifts = let d = depth-cases sh.depth taken.depth in (omega arith, omega arith)

  pub demand3-unaltered : Unaltered (plan_of sh) c
      → nat_abs (pos (2 ^ (27 - sh.depth)) *ℤ residual (plan_of sh) c x y -ℤ exact (plan_of sh) c x y) ≤ 64 * (weight_sizes (plan_of sh) x + 2 ^ (20 - sh.depth))
  demand3-unaltered u = rw shifts.1 at (near-unaltered (plan_of sh) c shifts.0 x y u hy)

  pub demand3-inner : Inner (plan_of sh) c
      → nat_abs (pos (2 ^ (27 - sh.depth)) *ℤ residual (plan_of sh) c x y -ℤ exact (plan_of sh) c x y) ≤ 64 * (weight_sizes (plan_of sh) x + 2 ^ (20 - sh.depth))
  demand3-inner inner = demand3-unaltered (inner-unaltered (plan_of sh) c inner)

  pub demand3 : rails (plan_of sh) c ≡ 0
      → nat_abs (pos (2 ^ (27 - sh.depth)) *ℤ at (inverse_block (plan_of sh) c) (x + y * sh.width) -ℤ exact (plan_of sh) c x y) ≤ 64 * (weight_sizes (plan_of sh) x + 2 ^ (20 - sh.depth))
  demand3 none = rw shifts.1 at (near-block (plan_of sh) c shifts.0 x y none hx hy)

  -- of what the call itself hands back: its rail count, and the element of its output
  pub demand3-call : (inverse_outcome sh c out).0.rails ≡ 0
      → nat_abs (pos (2 ^ (27 - sh.depth)) *ℤ at (inverse_outcome sh c out).1 (x + y * sh.width) -ℤ exact (plan_of sh) c x y) ≤ 64 * (weight_sizes (plan_of sh) x + 2 ^ (20 - sh.depth))
  demand3-call none =
      let done = inverse-done sh c out (inverse-accepted sh c out number) in
      subst
      (λ (o : Outcome). nat_abs (pos (2 ^ (27 - sh.depth)) *ℤ at o.1 (x + y * sh.width) -ℤ exact (plan_of sh) c x y) ≤ 64 * (weight_sizes (plan_of sh) x + 2 ^ (20 - sh.depth)))
      (sym done) (demand3 (sym (ap (λ (o : Outcome). o.0.rails) done) ∙ none))

  pub less-than-one-level : rails (plan_of sh) c ≡ 0 → sh.depth ≡ 10 → sh.width ≤ 16
      → nat_abs (pos (2 ^ 17) *ℤ at (inverse_block (plan_of sh) c) (x + y * sh.width) -ℤ exact (plan_of sh) c x y) < 2 ^ 17
  less-than-one-level none ten narrow =
      let a : 27 - sh.depth ≡ 17 = omega arith in
      let b : 20 - sh.depth ≡ 10 = omega arith in
      subst (λ (n : ℕ). nat_abs (pos (2 ^ n) *ℤ at (inverse_block (plan_of sh) c) (x + y * sh.width) -ℤ exact (plan_of sh) c x y) < 2 ^ 17) a
      (omega (arith, demand3 none, ap (λ (n : ℕ). 2 ^ n) b, narrow-sizes (plan_of sh) x (taken-sized sh taken) narrow hx))
