use Rattle.std.proofs.Common.{arith, ◌≡◌, sym, ◌∙◌, subst, ℕ, ◌+◌, ◌*◌, ◌-◌, ◌≤◌, length, take, drop}
use native.Mathlib.Nat.{mul-le-mul_right, add-mul}
use Prim.Native.Nat.{min}
use Rattle.dct2_block.specs.Stages.{middle_of, Tiles}
use Rattle.kernel_levels.specs.Kernels.{strip_sum}
use Rattle.kernel_picks.proofs.Cases.{few-points}
use Rattle.dct2_block.proofs.Splice.{long, spliced-at}
use Rattle.dct2_block.proofs.Strips.{strip-next}
use Rattle.std.proofs.Common.{length-take, length-drop}
use Rattle.dct2_block.proofs.down.downs.Goals as goal

pub overflow_mul-tall : goal.overflow_mul-tall
overflow_mul-tall c = omega (arith, few-points 8 c.args.h c.args.high c.requires.0)

pub slice_bounds-down_8-end : goal.slice_bounds-down_8-end
slice_bounds-down_8-end c =
    let s = c.args in
    let x = 8 * c.loop-strip.strip in
    let k : x + 8 ≤ s.columns = omega (arith, c.loop-strip-test.true, c.requires.1.1.0) in
    omega (arith, add-mul x 8 s.h, mul-le-mul_right s.h k, c.loop-strip.invariant.0)

pub down_8-requires : goal.down_8-requires
down_8-requires c =
    let s = c.args in
    let x = 8 * c.loop-strip.strip in
    let k : x + 8 ≤ s.columns = omega (arith, c.loop-strip-test.true, c.requires.1.1.0) in
    let room : x * s.h + 8 * s.h ≤ s.columns * s.h = omega (arith, add-mul x 8 s.h, mul-le-mul_right s.h k) in
    let stretch : length (take (x * s.h + 8 * s.h - x * s.h) (drop (x * s.h) c.loop-strip.m)) ≡ 8 * s.h = simp (length-take, length-drop) (omega (arith, room, c.loop-strip.invariant.0)) in
    (c.requires.0, (record { few = c.requires.1.0; there = λ y i a b. omega (arith, c.requires.1.1.1.0 (x + i) y (omega (arith, k)) a) }, stretch))

pub loop-strip-preserved : goal.loop-strip-preserved
unfolding strip_sum
loop-strip-preserved c =
    let s = c.args in
    let x = 8 * c.loop-strip.strip in
    let k : x + 8 ≤ s.columns = omega (arith, c.loop-strip-test.true, c.requires.1.1.0) in
    let room : x * s.h + 8 * s.h ≤ s.columns * s.h = omega (arith, add-mul x 8 s.h, mul-le-mul_right s.h k) in
    let stretch : length (take (x * s.h + 8 * s.h - x * s.h) (drop (x * s.h) c.loop-strip.m)) ≡ 8 * s.h = simp (length-take, length-drop) (omega (arith, room, c.loop-strip.invariant.0)) in
    let ys = c.down_8.new.m in
    let kept : length ys ≡ 8 * s.h = c.down_8.auto.m ∙ stretch in
    let o = x * s.h in
    let start : o ≤ length c.loop-strip.m = omega (arith, room, c.loop-strip.invariant.0) in
    let next : 8 * (c.loop-strip.strip + 1) ≡ x + 8 = omega arith in (
      long c.loop-strip.m ys o (o + 8 * s.h) start (omega (arith, kept)) (omega arith) (omega (arith, room, c.loop-strip.invariant.0)) ∙ c.loop-strip.invariant.0,
      subst (λ (k : ℕ). Tiles (min s.h 8) 8 (8 * s.h) k s.h (middle_of s.h s.stride s.rows s.c.now) (spliced-at c.loop-strip.m ys o (o + 8 * s.h))) (sym next)
          (strip-next s.high c.requires.0 (omega arith) start kept c.loop-strip.invariant.1 c.down_8.ensures (o + 8 * s.h)),
    )

pub returns : goal.returns
returns c =
    let e : 8 * c.loop-strip.strip ≡ c.args.columns = omega (arith, c.loop-strip-test.false, c.requires.1.1.0) in
    subst (λ (x : ℕ). Tiles (min c.args.h 8) 8 (8 * c.args.h) x c.args.h (middle_of c.args.h c.args.stride c.args.rows c.args.c.now) c.loop-strip.m) e c.loop-strip.invariant.1
