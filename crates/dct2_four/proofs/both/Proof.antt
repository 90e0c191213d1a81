-- `both` meets its contract: the second stage turns back what the first has turned. Assumes nothing.
use borrow.Author.Rules.{rules}
use native.Mathlib.Omega.{arith}
use mathlib.Core.Path.{◌≡◌, sym, ap, ◌∙◌, subst}
use mathlib.Core.List.{List}
use Prim.Native.Nat.{ℕ, ◌+◌, ◌*◌, ◌-◌, ◌^◌, ◌%◌, ◌≤◌, ◌<◌}
use lib.ListN.{length, replicate, length-replicate}
use lib.IntN.{ℤ, pos, nat_abs}
use lib.Pow.{pow_mono}
use mir.Syntax.{w32}
use mir.Val.{to_z, of_z}
use Rattle.algebra.proofs.Lists.{block-length}
use Rattle.product.proofs.Laid.{half_is}
use Rattle.kernel_levels.specs.Kernels.{Rowed}
use Rattle.dct2_block.specs.Stages.{Inner}
use Rattle.dct2_four.proofs.Four.{middles, residuals}
use Rattle.dct2_four.proofs.both.Statement.{statement}
use Rattle.dct2_four.proofs.both.Tie as tie

-- what a stage reads is there
rowed : (half : ℤ) (shift : ℕ) (l : List ℤ) → length l ≡ 16 → nat_abs half ≤ 1000000 → shift < 32 → Rowed 4 4 0 half shift l
rowed half shift l e small short = record { there = λ i k h g. let a : i % 8 ≡ i = omega arith in omega (arith, a, e); small = small; short = short }

zeros : length (replicate 16 (pos 0)) ≡ 16
zeros = length-replicate 16 (pos 0)

abbrev sums : tie.After-stage → List ℤ
sums c = c.stage.new.out

sums-long : (c : tie.After-stage) → length (sums c) ≡ 16
sums-long c = ap length c.stage.ensures ∙ block-length 4 4 _

abbrev turned : tie.After-put → List ℤ
turned c = c.put.new.m

turned-long : (c : tie.After-put) → length (turned c) ≡ 16
turned-long c = c.put.ensures.long ∙ zeros

stage-requires : tie.Need-stage-requires
stage-requires c κs = let s = c.before in (rowed _ _ _ s.requires.0 (omega arith) (omega arith), (zeros, s.requires.1.0))

slice-aggregate-put : tie.Need-slice_bounds-put-end
slice-aggregate-put c = sym (sums-long c.before)

slice-aggregate-put-2 : tie.Need-slice_bounds-put-end-2
slice-aggregate-put-2 c = sym zeros

put-requires : tie.Need-put-requires
put-requires c κs = (omega (arith, sums-long c.before.before), omega (arith, zeros))

slice-aggregate-stage : tie.Need-slice_bounds-stage-end
slice-aggregate-stage c = sym (turned-long c.before.before)

half-requires : tie.Need-half-requires
half-requires c κs = c.before.before.before.before.before.before.before.requires.1.1.0

-- what `half` gave
half-small : (c : tie.After-half) → nat_abs (to_z w32 (of_z w32 c.half.result)) ≤ 1000000
half-small c =
    let s = c.before.before.before.before.before.before.before.before in
    let e : 2 ^ (s.args.shift - 1) ≤ 2 ^ 19 = pow_mono {i = s.args.shift - 1} {j = 19} (omega (arith, s.requires.1.1.0)) in
    subst (λ (z : ℤ). nat_abs z ≤ 1000000) (sym (half_is c.half.ensures)) (omega (arith, e))

stage-requires-2 : tie.Need-stage-requires-2
stage-requires-2 c κs =
    let H = c.before in
    let s = H.before.before.before.before.before.before.before.before in
    (rowed _ _ _ (turned-long H.before.before.before) (half-small H) (omega (arith, s.requires.1.1.0)), (zeros, s.requires.1.0))

copied-requires : tie.Need-copied-requires
copied-requires c κs =
    let T = c.before.before in
    (ap length T.stage-2.ensures ∙ block-length 4 4 _, T.before.before.before.before.before.before.before.before.before.before.requires.1.1.1)

slice-aggregate-touched : tie.Need-slice_bounds-touched-end
slice-aggregate-touched c = sym (turned-long c.before.before.before.before.before.before.before.before.before.before)

touched-requires : tie.Need-touched-requires
touched-requires c κs = search rules

same_length : tie.Need-shape_of-r
same_length c = search rules

returns : tie.Need-returns
returns c =
    let T = c.before.before.before.before.before.before in
    let H = T.before.before in
    let M = H.before.before.before in
    let S = M.before.before.before in
    let s = S.before.before in
    let n = s.args.c.now in
    let m = turned M in (
      c.before.before.before.copied.ensures
          ∙ residuals n (sums S) m (replicate 16 (pos 0)) S.stage.ensures M.put.ensures _ s.args.shift _ (half_is H.half.ensures) T.stage-2.ensures,
      λ f x y h g. subst Inner (middles n (sums S) m (replicate 16 (pos 0)) S.stage.ensures M.put.ensures x y h g) (c.touched.ensures f (y + x * 4) (omega (arith, turned-long M))),
    )

pub both_spec : {M : Type 1} → statement M
both_spec =
    tie.close
    (tie.spec
    stage-requires
    slice-aggregate-put
    slice-aggregate-put-2
    put-requires
    slice-aggregate-stage
    half-requires
    stage-requires-2
    copied-requires
    slice-aggregate-touched
    touched-requires
    same_length
    returns)
