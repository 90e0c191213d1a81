-- How large a block's numbers can be, and that no sum over 65,536 blocks leaves 64 bits: a residual that is not refused is at most
-- 4,095 in size, a returned one at most 2^18, so a difference at most 266,239. Assumes nothing.
use Rattle.std.proofs.Common.{◌≡◌, ℕ, ◌*◌, ◌^◌, ◌≤◌, true, List, ℤ, mul-le-mul, arith, pow_mono}
use Rattle.algebra.specs.Sum.{sumℕ}
use Rattle.algebra.specs.Lists.{at}
use Rattle.algebra.proofs.Sum.{sumℕ-mono, sumℕ-const}
use Rattle.meaning.specs.declared.Shape.{Shape}
use Rattle.meaning.specs.Plan.{plan_of}
use Rattle.meaning.specs.Inverse.{column_sum, rounded, middle_at, railed, count, rails}
use Rattle.meaning.specs.Forward.{forward_block}
use Rattle.meaning.proofs.Cases.{depth-cases}
use Rattle.meaning.proofs.AcceptedCalls.{elements-in}
use Rattle.meaning.proofs.NoRails.{count-in}
use Rattle.meaning.proofs.Stages.{taken-sized}
use Rattle.forward_and_back.specs.Trip.{elements, rail_count, returned, apart, largest, squares}
use Rattle.report.specs.Given.{GivenBlock, taken}
use Rattle.forward_and_back.proofs.Numbers.{greatest-in, squares-in, apart_in}
use Rattle.forward_and_back.proofs.Back.{Took, took, returned-in}
use Rattle.report.proofs.Cells.{taken-zero}

module _ (sh : Shape) (r : List ℤ) (t : Took sh r) where
  -- no more than there are middle values
  pub rails-in : rail_count sh r ≤ 1024
  unfolding rail_count rails
  rails-in =
      let p = plan_of sh in
      let c = forward_block sh r in
      let f : ℕ → ℕ → ℕ = λ x y. count (railed (rounded (column_sum p c x y)) (middle_at p c x y)) in
      let column : (x : ℕ) → sumℕ sh.height (f x) ≤ sh.height = λ x. omega (arith, sumℕ-mono sh.height (f x) (λ y. 1) (λ y _. count-in (railed (rounded (column_sum p c x y)) (middle_at p c x y))), sumℕ-const sh.height 1) in
      let all = sumℕ-mono p.columns (λ x. sumℕ sh.height (f x)) (λ x. sh.height) (λ x _. column x) in
      let kept : p.columns * sh.height ≤ elements sh = mul-le-mul (taken-sized sh t.taken).columns (omega arith) in
      omega (arith, all, sumℕ-const p.columns sh.height, kept, elements-in sh t.taken)

  apart-small : (k : ℕ) → apart r (returned sh r) k ≤ 266239
  apart-small k =
      let d = depth-cases sh.depth t.taken.depth in
      let p : 2 ^ sh.depth ≤ 4096 = pow_mono {j = 12} d.1 in
      apart_in (at r k) (at (returned sh r) k) {A = 4095} (omega (arith, t.small k, p)) (returned-in sh r t.taken k)

  pub largest-in : largest sh r ≤ 266239
  unfolding largest
  largest-in = greatest-in (elements sh) (apart r (returned sh r)) 266239 (λ k _. apart-small k)

  -- 1,024 squares
  pub squares-fit : squares sh r ≤ 72584402043904
  unfolding squares
  squares-fit = omega (arith, squares-in (elements sh) (apart r (returned sh r)) 266239 (λ k _. apart-small k), elements-in sh t.taken)

pub took-given : (b : GivenBlock) → taken b ≡ true → Took b.shape b.residuals
took-given b y = took b.shape b.residuals (taken-zero b y)
