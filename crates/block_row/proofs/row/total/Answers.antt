use Rattle.std.proofs.Common.{rules, arith, ◌≡◌, ◌+◌, ◌≤◌, suc, length, drop, ap}
use native.Mathlib.Nat.{zero-add}
use native.Mathlib.Numerals.{add-one}
use Rattle.block_row.specs.Numbers.{shapes_of}
use Rattle.block_row.specs.Row.{span, spans}
use Rattle.block_row.proofs.Spans.{span_small, spans-more, spans-end}
use Rattle.block_row.proofs.Listed.{shapes-length, shapes-at}
use Rattle.block_row.proofs.row.total.Goals as goal

pub loop-i-init : goal.loop-i-init
loop-i-init c = (search rules, zero-add _)

pub overflow_add-sum : goal.overflow_add-sum
overflow_add-sum c = omega (arith, c.span_of-sum.ensures, span_small c.row_shape.result)

pub loop-i-preserved : goal.loop-i-preserved
loop-i-preserved c =
    let s = c.args in
    let L = c.loop-i in
    let l = s.shapes.now in
    let T = shapes_of s.count l in
    let sh = c.row_shape.result in
    let e = ap span (shapes-at s.count l L.i sh c.loop-i-test.true) in
    let m = spans-more T L.i sh (omega (arith, shapes-length s.count l, c.loop-i-test.true)) in
    let a = span_small sh in
    let q : spans (drop (L.i + 1) T) ≡ spans (drop (suc L.i) T) = rw (add-one L.i) in
    let r = c.span_of-sum.ensures in
    let z = ap span c.row_shape.ensures in
    (omega arith, omega arith)

pub returns : goal.returns
returns c =
    let s = c.args in
    let L = c.loop-i in
    let T = shapes_of s.count s.shapes.now in
    let long : length T ≤ L.i = omega (arith, shapes-length s.count s.shapes.now, c.loop-i-test.false) in
    omega (arith, spans-end T L.i long)
