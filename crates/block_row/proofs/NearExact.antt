-- Demand 3 of each block of a row: where the row was taken, block k accepted and its rail count 0, every residual of its stretch
-- is as near the exact double sum of its own coefficients as the single call's. Assumes nothing.
use mathlib.Core.Path.{◌≡◌, sym, ap, ◌∙◌}
use mathlib.Core.List.{List}
use Prim.Native.Nat.{ℕ, ◌+◌, ◌*◌, ◌-◌, ◌^◌, ◌≤◌, ◌<◌}
use native.Mathlib.Nat.{mul_comm}
use native.Mathlib.Omega.{arith}
use lib.IntN.{ℤ, pos, nat_abs, ◌-ℤ◌, ◌*ℤ◌}
use lib.ListN.{length, drop, get_or}
use lib.Seq.{get_or-take, get_or-drop}
use Rattle.algebra.specs.Lists.{at}
use Rattle.algebra.proofs.Lists.{place_in}
use Rattle.meaning.specs.declared.Shape.{Shape}
use Rattle.meaning.specs.declared.Answer.{Answer}
use Rattle.meaning.specs.Plan.{plan_of}
use Rattle.meaning.specs.Exact.{exact, weight_sizes}
use Rattle.meaning.proofs.AcceptedCalls.{inverse-accepted}
use Rattle.meaning.proofs.NearExact.{demand3-call}
use Rattle.block_row.specs.Numbers.{answer_at}
use Rattle.block_row.specs.Row.{span, row_outcome}
use Rattle.block_row.specs.Calls.{stretch, start_of}
use Rattle.block_row.proofs.Spans.{span-sized}
use Rattle.block_row.proofs.OneByOne.{block-answer, block-stretch}

module _ (shapes : List Shape) (answers : List ℕ) (c out : List ℤ) (number : (row_outcome shapes answers c out).0 ≡ 0)
    (room : length shapes * 3 ≤ length answers) (k : ℕ) (d : Shape) (h : k < length shapes) where
  -- the block: its shape, where its stretch starts, its own coefficients; its answer, and a residual of its stretch
  abbrev pub shape : Shape
  shape = get_or shapes k d

  abbrev pub start : ℕ
  start = start_of shapes k

  abbrev pub coefficients : List ℤ
  coefficients = stretch start (span shape) c

  abbrev pub answer : Answer
  answer = answer_at (row_outcome shapes answers c out).1.0 k

  abbrev pub residual_at : ℕ → ℕ → ℤ
  residual_at x y = at (row_outcome shapes answers c out).1.1 (start + (x + y * shape.width))

  pub block-demand3 : answer.number ≡ 0 → answer.rails ≡ 0 → (x y : ℕ) → x < shape.width → y < shape.height
      → nat_abs (pos (2 ^ (27 - shape.depth)) *ℤ residual_at x y -ℤ exact (plan_of shape) coefficients x y) ≤ 64 * (weight_sizes (plan_of shape) x + 2 ^ (20 - shape.depth))
  block-demand3 n r x y hx hy =
      let O = stretch start (span shape) out in
      let a = block-answer shapes answers c out number k d h room in
      let n' = ap (λ (b : Answer). b.number) (sym a) ∙ n in
      let t = (inverse-accepted shape coefficients O n').0.taken in
      let in_block : x + y * shape.width < span shape
      = omega (arith, span-sized shape t.width t.height, mul_comm shape.width shape.height, place_in {x = x} {y = y} {w = shape.width} {h = shape.height} hx hy) in
      let out' = (row_outcome shapes answers c out).1.1 in
      let z : residual_at x y ≡ at (stretch start (span shape) out') (x + y * shape.width)
      = sym (get_or-take (span shape) (drop start out') (x + y * shape.width) (pos 0) in_block ∙ get_or-drop start out' (x + y * shape.width) (pos 0)) in
      rw (z ∙ ap (λ (l : List ℤ). at l (x + y * shape.width)) (block-stretch shapes answers c out number k d h))
      (demand3-call shape coefficients O n' x y hx hy (ap (λ (b : Answer). b.rails) (sym a) ∙ r))
