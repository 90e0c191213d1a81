use Rattle.std.proofs.Common.{arith, ◌≡◌, sym, ap, ◌∙◌, subst, List, ℕ, ◌+◌, ◌*◌, ◌-◌, ◌/◌, ◌%◌, ◌≤◌, ◌<◌, nat_abs, length, ℤ, to_z, of_z, take, drop}
use mir.Syntax.{w32}
use mir.ValLaws.{to_z-of_z}
use native.Mathlib.Nat.{mul-le-mul_right, add-mul}
use Rattle.algebra.specs.Lists.{at, block}
use Rattle.algebra.proofs.Lists.{block-ext}
use Rattle.meaning.specs.Line.{inverse_sum}
use Rattle.product.specs.Product.{shifted}
use Rattle.kernel_levels.specs.Kernels.{rows_sum}
use Rattle.kernel_picks.proofs.Cases.{few-points, some-live}
use Rattle.dct2_block.proofs.Splice.{long, spliced-at}
use Rattle.dct2_block.proofs.Groups.{part-long, Grouped, group-next, group-sum, group_place}
use Rattle.algebra.proofs.Lists.{block-length}
use Rattle.std.proofs.Common.{length-take, length-drop}
use Rattle.dct2_block.proofs.along.alongs.Goals as goal

-- the middle values of group n are there
in-m : (m : List ℤ) (n step apart wide h : ℕ) → ((i y : ℕ) → i < wide → y < h → y / 8 * step + (i / 8 * apart + i % 8 * 8 + y % 8) < length m) → 8 * n + 8 ≤ h
    → (i l : ℕ) → i < wide → l < 8 → n * step + (i / 8 * apart + i % 8 * 8 + l) < length m
in-m m n step apart wide h there more i l a b =
    let q : (8 * n + l) / 8 ≡ n = omega arith in
    let r : (8 * n + l) % 8 ≡ l = omega arith in
    let p = there i (8 * n + l) a (omega arith) in
    let p' = subst (λ (k : ℕ). k * step + (i / 8 * apart + i % 8 * 8 + (8 * n + l) % 8) < length m) q p in
    subst (λ (k : ℕ). n * step + (i / 8 * apart + i % 8 * 8 + k) < length m) r p'

pub overflow_mul-full : goal.overflow_mul-full
overflow_mul-full c = omega (arith, few-points 8 c.args.w c.args.wide c.requires.0)

pub overflow_mul-a : goal.overflow_mul-a
overflow_mul-a c =
    let s = c.args in
    let n = c.loop-group.group in
    let y = 8 * n in
    let more : y + 8 ≤ s.h = omega (arith, c.loop-group-test.true, c.requires.1.0) in
    let there : (i l : ℕ) → i < s.wide → l < 8 → n * s.step + (i / 8 * s.apart + i % 8 * 8 + l) < length s.m.now = in-m s.m.now n s.step s.apart s.wide s.h c.requires.1.1.1.1.1 more in
    let first : n * s.step < length s.m.now = omega (arith, there 0 0 (some-live 8 s.w s.wide c.requires.0) (omega arith)) in
    omega (arith, first)

pub offset_bounds-m-a : goal.offset_bounds-m-a
offset_bounds-m-a c =
    let s = c.args in
    let n = c.loop-group.group in
    let y = 8 * n in
    let more : y + 8 ≤ s.h = omega (arith, c.loop-group-test.true, c.requires.1.0) in
    let there : (i l : ℕ) → i < s.wide → l < 8 → n * s.step + (i / 8 * s.apart + i % 8 * 8 + l) < length s.m.now = in-m s.m.now n s.step s.apart s.wide s.h c.requires.1.1.1.1.1 more in
    let first : n * s.step < length s.m.now = omega (arith, there 0 0 (some-live 8 s.w s.wide c.requires.0) (omega arith)) in
    omega (arith, first)

pub slice_bounds-along_8-count : goal.slice_bounds-along_8-count
slice_bounds-along_8-count c =
    let s = c.args in
    let n = c.loop-group.group in
    let y = 8 * n in
    let more : y + 8 ≤ s.h = omega (arith, c.loop-group-test.true, c.requires.1.0) in
    let there : (i l : ℕ) → i < s.wide → l < 8 → n * s.step + (i / 8 * s.apart + i % 8 * 8 + l) < length s.m.now = in-m s.m.now n s.step s.apart s.wide s.h c.requires.1.1.1.1.1 more in
    let first : n * s.step < length s.m.now = omega (arith, there 0 0 (some-live 8 s.w s.wide c.requires.0) (omega arith)) in
    omega (arith, first)

pub slice_bounds-along_8-start : goal.slice_bounds-along_8-start
slice_bounds-along_8-start c =
    let s = c.args in
    let n = c.loop-group.group in
    let y = 8 * n in
    let more : y + 8 ≤ s.h = omega (arith, c.loop-group-test.true, c.requires.1.0) in
    let there : (i l : ℕ) → i < s.wide → l < 8 → n * s.step + (i / 8 * s.apart + i % 8 * 8 + l) < length s.m.now = in-m s.m.now n s.step s.apart s.wide s.h c.requires.1.1.1.1.1 more in
    let first : n * s.step < length s.m.now = omega (arith, there 0 0 (some-live 8 s.w s.wide c.requires.0) (omega arith)) in
    omega (arith, first)

pub slice_bounds-along_8-end-in-loop-group : goal.slice_bounds-along_8-end-in-loop-group
slice_bounds-along_8-end-in-loop-group c =
    let s = c.args in
    let n = c.loop-group.group in
    let y = 8 * n in
    let more : y + 8 ≤ s.h = omega (arith, c.loop-group-test.true, c.requires.1.0) in
    let room : y * s.w + 8 * s.w ≤ s.h * s.w = omega (arith, add-mul y 8 s.w, mul-le-mul_right s.w more) in
    omega (arith, room, c.loop-group.invariant.0)

pub along_8-requires : goal.along_8-requires
along_8-requires c =
    let s = c.args in
    let n = c.loop-group.group in
    let y = 8 * n in
    let more : y + 8 ≤ s.h = omega (arith, c.loop-group-test.true, c.requires.1.0) in
    let there : (i l : ℕ) → i < s.wide → l < 8 → n * s.step + (i / 8 * s.apart + i % 8 * 8 + l) < length s.m.now = in-m s.m.now n s.step s.apart s.wide s.h c.requires.1.1.1.1.1 more in
    let first : n * s.step < length s.m.now = omega (arith, there 0 0 (some-live 8 s.w s.wide c.requires.0) (omega arith)) in
    let room : y * s.w + 8 * s.w ≤ s.h * s.w = omega (arith, add-mul y 8 s.w, mul-le-mul_right s.w more) in
    let o = y * s.w in
    let half-is : to_z w32 (of_z w32 s.half) ≡ s.half = to_z-of_z w32 s.half c.ranges.half in (
      c.requires.0,
      (
        record {
          there = λ i l h g. subst (λ (k : ℕ). i / 8 * s.apart + i % 8 * 8 + l < k) (sym (part-long s.m.now (n * s.step) (omega (arith, first)))) (omega (arith, there i l h g));
          small = subst (λ (z : ℤ). nat_abs z ≤ 1000000) (sym half-is) c.requires.1.1.0.small;
          short = c.requires.1.1.0.short;
        },
        (simp (length-take, length-drop) (omega (arith, room, c.loop-group.invariant.0)), c.requires.1.1.1.0.0),
      ),
    )

pub loop-group-preserved : goal.loop-group-preserved
loop-group-preserved c =
    let s = c.args in
    let n = c.loop-group.group in
    let y = 8 * n in
    let more : y + 8 ≤ s.h = omega (arith, c.loop-group-test.true, c.requires.1.0) in
    let there : (i l : ℕ) → i < s.wide → l < 8 → n * s.step + (i / 8 * s.apart + i % 8 * 8 + l) < length s.m.now = in-m s.m.now n s.step s.apart s.wide s.h c.requires.1.1.1.1.1 more in
    let first : n * s.step < length s.m.now = omega (arith, there 0 0 (some-live 8 s.w s.wide c.requires.0) (omega arith)) in
    let room : y * s.w + 8 * s.w ≤ s.h * s.w = omega (arith, add-mul y 8 s.w, mul-le-mul_right s.w more) in
    let half = to_z w32 (of_z w32 s.half) in
    let ys = c.along_8.new.r in
    let o = y * s.w in
    let start : o ≤ length c.loop-group.r = omega (arith, room, c.loop-group.invariant.0) in
    let kept : length ys ≡ 8 * s.w = ap length c.along_8.ensures ∙ block-length s.w 8 _ in
    let place : n * s.step ≡ y / 8 * s.step = ap (λ (k : ℕ). k * s.step) (let e : n ≡ y / 8 = omega arith in e) in
    let next = group-next start c.loop-group.invariant.1 (λ j l. shifted half s.shift (rows_sum s.w s.wide 8 s.apart (take (length s.m.now - n * s.step) (drop (n * s.step) s.m.now)) j l))
    c.along_8.ensures (λ j l h g. ap (shifted half s.shift) (group-sum s.m.now s.w s.wide s.step s.apart y (n * s.step) j l (omega arith) g place (λ i k. there i l k g))) (o + 8 * s.w) in
    let count : 8 * (n + 1) ≡ y + 8 = omega arith in (
      long c.loop-group.r ys o (o + 8 * s.w) start (omega (arith, kept)) (omega arith) (omega (arith, room, c.loop-group.invariant.0)) ∙ c.loop-group.invariant.0,
      subst (λ (k : ℕ). Grouped s.w k (λ j y. shifted half s.shift (inverse_sum 0 s.w s.wide (λ i. at s.m.now (group_place s.step s.apart i y)) j)) (spliced-at c.loop-group.r ys o (o + 8 * s.w))) (sym count) next,
    )

pub returns : goal.returns
returns c =
    let s = c.args in
    let e : 8 * c.loop-group.group ≡ s.h = omega (arith, c.loop-group-test.false, c.requires.1.0) in
    block-ext s.w s.h _ c.loop-group.r c.loop-group.invariant.0 (λ x y h g. c.loop-group.invariant.1.held x y h (omega (arith, e)))
    ∙ ap (λ (z : ℤ). block s.w s.h (λ j y. shifted z s.shift (inverse_sum 0 s.w s.wide (λ i. at s.m.now (group_place s.step s.apart i y)) j))) (to_z-of_z w32 s.half c.ranges.half)
