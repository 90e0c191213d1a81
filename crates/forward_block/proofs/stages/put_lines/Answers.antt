use Rattle.std.proofs.Common.{arith, ◌≡◌, ℕ, ◌+◌, ◌*◌, ◌-◌, ◌<◌, ◌≤◌, length, take, drop, sym, ◌∙◌, subst, SFits, w16}
use Rattle.algebra.specs.Lists.{at}
use Rattle.algebra.proofs.Lists.{row_in, tab-cong, part_in, part_filled}
use Rattle.product.specs.Product.{Line}
use Rattle.product.proofs.Laid.{half_is, half-rounds}
use Rattle.forward_block.specs.Stage.{line_value}
use Rattle.forward_block.proofs.Places.{stage-next}
use Rattle.forward_block.proofs.OneLine.{one_line, one_value}
use Rattle.forward_block.proofs.stages.put_lines.Goals as goal
use Rattle.forward_block.proofs.stages.put_lines.Goals.{In-loop-y, After-narrow-arg-1}

-- this turn's line, and the places of its row
this : (c : In-loop-y) → let s = c.args in Line s.kept s.pairs s.a.now (s.step * c.loop-y.y) s.gap s.b.now s.apart
this c = c.requires.lines.each c.loop-y.y c.loop-y-test.true

there : (c : In-loop-y) → c.args.step * c.loop-y.y < length c.args.a.now
there c = omega (arith, (this c).there 0 (omega (arith, c.requires.lines.some)))

inside : (c : In-loop-y) → c.loop-y.y * c.args.wide + c.args.kept ≤ length c.loop-y.out
inside c =
    omega (arith, row_in c.args.wide c.loop-y-test.true, c.requires.narrow, c.requires.held, c.loop-y.invariant.1.long)

pub overflow_mul-o : goal.overflow_mul-o
overflow_mul-o c = omega (arith, there (goal.at.overflow_mul-o c).In-loop-y)

pub offset_bounds-a-o : goal.offset_bounds-a-o
offset_bounds-a-o c = omega (arith, there (goal.at.offset_bounds-a-o c).In-loop-y)

pub slice_bounds-lines-count : goal.slice_bounds-lines-count
slice_bounds-lines-count c = omega (arith, there (goal.at.slice_bounds-lines-count c).In-loop-y)

pub slice_bounds-lines-start : goal.slice_bounds-lines-start
slice_bounds-lines-start c = omega (arith, there (goal.at.slice_bounds-lines-start c).In-loop-y)

pub lines-requires : goal.lines-requires
lines-requires c =
    (one_line c.args.step (this (goal.at.lines-requires c).In-loop-y) c.requires.lines.some, (half-rounds c.half-half.ensures, omega (arith, c.requires.few, c.loop-y.invariant.0)))

-- what the line left in e
worked : (c : After-narrow-arg-1) → let s = c.args in (x : ℕ) → x < s.kept → at c.lines.new.out x ≡ line_value s.pairs s.a.now s.step s.gap s.b.now s.apart s.shift x c.loop-y.y
worked c =
    let s = c.args in
    one_value s.step (this (goal.at.narrow-requires c).In-loop-y) s.shift (drop (1 * s.kept) c.loop-y.e) (half_is c.half-half.ensures) c.lines.ensures

long : (c : After-narrow-arg-1) → length c.lines.new.out ≡ 32
long c = c.lines.auto.out ∙ c.loop-y.invariant.0

pub narrow-requires : goal.narrow-requires
narrow-requires c =
    let L = c.loop-y in
    let s = c.args in
    let n = part_in L.out (L.y * s.wide) s.kept (inside (goal.at.narrow-requires c).In-loop-y) in
    (omega (arith, n, long c, c.requires.few), λ k h. subst (SFits w16) (sym (worked c k (omega (arith, n)))) (c.requires.fits k L.y (omega (arith, n)) c.loop-y-test.true))

pub loop-y-preserved : goal.loop-y-preserved
loop-y-preserved c =
    let C = (goal.at.loop-y-preserved c).After-narrow-arg-1 in
    let I = (goal.at.loop-y-preserved c).In-loop-y in
    let L = c.loop-y in
    let a = c.args in
    let q = L.y * a.wide in
    let n = part_in L.out q a.kept (inside I) in (
      long C,
      stage-next c.requires.narrow L.invariant.1
          (part_filled L.out _ q a.kept (λ x. line_value a.pairs a.a.now a.step a.gap a.b.now a.apart a.shift x L.y) (inside I)
          (c.narrow.ensures ∙ tab-cong (length (take (q + a.kept - q) (drop q L.out))) _ _ (λ x h. worked C x (omega (arith, n))))),
    )
