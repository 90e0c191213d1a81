use Rattle.std.proofs.Common.{rules, arith, ◌≡◌, ◌+◌, ◌<◌, ◌≤◌, ℕ, List, length, get_or, sym, ap, ◌∙◌}
use native.Mathlib.Nat.{le_antisymm}
use Rattle.meaning.specs.declared.Shape.{Shape}
use Rattle.block_row.specs.Numbers.{shapes_of}
use Rattle.block_row.specs.Row.{span}
use Rattle.block_row.proofs.Listed.{shapes-length, shapes-at}
use Rattle.block_row.proofs.Passed.{Passed, passed}
use Rattle.block_row.proofs.Made.{made_none, made-room, made-next-of, made_all}
use Rattle.block_row.proofs.row.each.Goals as goal
use Rattle.block_row.proofs.row.each.Goals.{Start, After-span_of}

-- the list, and that its row was taken
abbrev T : Start → List Shape
T s = shapes_of s.args.count s.args.shapes.now

T-long : (s : Start) → length (T s) ≡ s.args.count
T-long s = shapes-length s.args.count s.args.shapes.now

taken : (s : Start) → Passed (T s) (length s.args.coefficients.now) (length s.args.residuals.now)
taken s = passed (T s) (length s.args.coefficients.now) (length s.args.residuals.now) s.requires

few : (s : Start) → s.args.count ≤ 64
few s = omega (arith, (taken s).few, T-long s)

pub loop-k-init : goal.loop-k-init
loop-k-init c =
    let t = taken (goal.at.loop-k-init c).Start in
    made_none (T (goal.at.loop-k-init c).Start) c.args.answers.now c.args.coefficients.now c.args.residuals.now t.long t.room

pub row_shape-shape-requires : goal.row_shape-shape-requires
row_shape-shape-requires c = omega (arith, few (goal.at.row_shape-shape-requires c).Start, c.loop-k-test.true)

-- the shape that was read is the list's, and its stretch is in both buffers
k-in : (c : After-span_of) → c.loop-k.k < length (shapes_of c.args.count c.args.shapes.now)
k-in c = omega (arith, shapes-length c.args.count c.args.shapes.now, c.loop-k-test.true)

is-shape : (c : After-span_of) → get_or (shapes_of c.args.count c.args.shapes.now) c.loop-k.k c.row_shape-shape.result ≡ c.row_shape-shape.result
is-shape c =
    shapes-at c.args.count c.args.shapes.now c.loop-k.k c.row_shape-shape.result c.loop-k-test.true ∙ sym c.row_shape-shape.ensures

room : (c : After-span_of) → c.loop-k.start + c.span_of.result ≤ length c.args.coefficients.now
room c =
    omega (arith, c.span_of.ensures, ap span (is-shape c), made-room c.loop-k.invariant c.row_shape-shape.result (k-in c))

pub overflow_add-end : goal.overflow_add-end
overflow_add-end c = omega (arith, room (goal.at.overflow_add-end c).After-span_of)

pub slice_bounds-inverse-end : goal.slice_bounds-inverse-end
slice_bounds-inverse-end c = room (goal.at.slice_bounds-inverse-end c).After-span_of

pub slice_bounds-inverse-end-in-loop-k : goal.slice_bounds-inverse-end-in-loop-k
slice_bounds-inverse-end-in-loop-k c = omega (arith, room (goal.at.slice_bounds-inverse-end-in-loop-k c).After-span_of, c.loop-k.invariant.long)

pub put-requires : goal.put-requires
put-requires c = omega (arith, few (goal.at.put-requires c).Start, c.loop-k-test.true)

pub loop-k-preserved : goal.loop-k-preserved
loop-k-preserved c =
    let a = (goal.at.loop-k-preserved c).After-span_of in
    rw c.put.ensures
    (made-next-of c.loop-k.invariant c.row_shape-shape.result c.inverse-answer.result _ _ c.row_shape-shape.result (is-shape a) (k-in a) (ap (λ (n : ℕ). c.loop-k.start + n) c.span_of.ensures) c.inverse-answer.ensures)

pub returns : goal.returns
returns c =
    let e : c.loop-k.k ≡ c.args.count = omega (arith, c.loop-k-test.false) in
    made_all (e ∙ sym (T-long (goal.at.returns c).Start)) c.loop-k.invariant
