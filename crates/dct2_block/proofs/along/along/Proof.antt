-- `along` meets its contract: the one group of 4 rows, or groups of 8. Assumes nothing.
use native.Mathlib.Omega.{arith}
use mathlib.Core.Path.{◌≡◌, refl, sym, ap, ◌∙◌, subst}
use mathlib.Core.Bool.{true}
use Prim.Native.Nat.{ℕ, ◌*◌, ◌%◌, ◌≤◌, ◌<◌, min}
use native.Mathlib.Nat.{mul-le-mul}
use lib.IntN.{ℤ, nat_abs}
use lib.ListN.{length}
use mir.Syntax.{w32}
use mir.Val.{to_z, of_z}
use mir.ValLaws.{to_z-of_z}
use Rattle.algebra.specs.Lists.{at, block}
use Rattle.algebra.proofs.Lists.{block_cong, block-length}
use Rattle.meaning.specs.Line.{inverse_sum}
use Rattle.meaning.proofs.Cases.{size_in}
use Rattle.product.specs.Product.{shifted}
use Rattle.kernel_levels.specs.Kernels.{rows_sum}
use Rattle.kernel_picks.specs.Picks.{is_kernel}
use Rattle.dct2_block.specs.Stages.{place_of}
use Rattle.dct2_block.proofs.Kernel.{below-8, wide_is}
use Rattle.dct2_block.proofs.Groups.{four-place, eight-place}
use Rattle.dct2_block.proofs.along.along.Statement.{statement}
use Rattle.dct2_block.proofs.along.along.Tie as tie

half_is : (c : tie.Start) → to_z w32 (of_z w32 c.args.half) ≡ c.args.half
half_is c = to_z-of_z w32 c.args.half c.ranges.half

strip-few : (c : tie.Start) → c.args.strip ≤ 8
strip-few c = omega (arith, c.requires.1.1.0)

four : (c : tie.Start) → c.args.h < 8 → c.args.h ≡ 4
four c h = below-8 c.args.h c.requires.0.height h

eight : (c : tie.Start) → 8 ≤ c.args.h → (min c.args.h 8 ≡ 8) × (c.args.h % 8 ≡ 0)
eight c h = wide_is c.args.h c.requires.0.height h

mul-apart : tie.Need-overflow_mul-apart
mul-apart c =
    let p : c.args.strip * c.args.h ≤ 8 * 32 = mul-le-mul (strip-few c) (size_in c.args.h c.requires.0.height) in
    omega arith

along-4-requires : tie.Need-along_4-requires
along-4-requires c κs =
    let s = c.before.before in
    let a = s.args in
    let f = four s c.before.if-h-lt8.true in (
      subst (λ (k : ℕ). is_kernel k a.w a.wide ≡ true) (ap (λ (h : ℕ). min h 8) f) s.requires.0.kernel,
      (
        record {
          there = λ i l h g. subst (λ (k : ℕ). k < length a.m.now) (four-place (min a.w 8) a.strip a.h i l f s.requires.1.1.0 g) (s.requires.0.there i l h (omega (arith, f)));
          small = subst (λ (z : ℤ). nat_abs z ≤ 1000000) (sym (half_is s)) s.requires.1.0.small;
          short = s.requires.1.0.short;
        },
        (s.requires.1.1.1 ∙ ap (λ (k : ℕ). k * a.w) f, f),
      ),
    )

returns : tie.Need-returns-then-h-lt8
unfolding rows_sum
returns c =
    let s = c.before.before.before.before in
    let a = s.args in
    let f = four s c.before.before.before.if-h-lt8.true in
    c.before.along_4.ensures
    ∙ (λ t. block a.w (sym f t) (λ j l. shifted (half_is s t) a.shift (rows_sum a.w a.wide 4 (a.strip * a.h) a.m.now j l)))
    ∙ block_cong a.w a.h (λ j l. shifted a.half a.shift (rows_sum a.w a.wide 4 (a.strip * a.h) a.m.now j l))
    (λ j y. shifted a.half a.shift (inverse_sum 0 a.w a.wide (λ i. at a.m.now (place_of (min a.h 8) (min a.w 8) (min a.w 8 * a.h) i y)) j))
    (λ j y h g. λ t. shifted a.half a.shift (inverse_sum 0 a.w a.wide (λ i. at a.m.now (sym (four-place (min a.w 8) a.strip a.h i y f s.requires.1.1.0 (omega (arith, g, f))) t)) j))

same_length : tie.Need-shape_of-r-then-h-lt8
same_length c = ap length (returns c) ∙ block-length c.before.before.before.before.args.w c.before.before.before.before.args.h _ ∙ sym c.before.before.before.before.requires.1.1.1

mul-alongs : tie.Need-overflow_mul-strip
mul-alongs c = omega (arith, strip-few c.before)

alongs-requires : tie.Need-alongs-requires
alongs-requires c κs =
    let s = c.before.before in
    let a = s.args in
    let e = eight s c.before.if-h-lt8.false in (
      subst (λ (k : ℕ). is_kernel k a.w a.wide ≡ true) e.0 s.requires.0.kernel,
      (
        e.1,
        (
          record { small = subst (λ (z : ℤ). nat_abs z ≤ 1000000) (sym (half_is s)) s.requires.1.0.small; short = s.requires.1.0.short },
          (
            (refl, omega (arith, strip-few s)),
            (
              s.requires.1.1.1,
              λ i y h g. subst (λ (k : ℕ). k < length a.m.now) (eight-place (min a.w 8) a.strip a.h i y e.0 s.requires.1.1.0) (s.requires.0.there i y h g),
            ),
          ),
        ),
      ),
    )

returns-2 : tie.Need-returns
returns-2 c =
    let s = c.before.before.before.before in
    let a = s.args in
    let e = eight s c.before.before.before.if-h-lt8.false in
    c.before.alongs.ensures
    ∙ (λ t. block a.w a.h (λ j y. shifted (half_is s t) a.shift (inverse_sum 0 a.w a.wide (λ i. at a.m.now (sym (eight-place (min a.w 8) a.strip a.h i y e.0 s.requires.1.1.0) t)) j)))

same-length-2 : tie.Need-shape_of-r
same-length-2 c = ap length (returns-2 c) ∙ block-length c.before.before.before.before.args.w c.before.before.before.before.args.h _ ∙ sym c.before.before.before.before.requires.1.1.1

pub along_spec : {M : Type 1} → statement M
along_spec = tie.close (tie.spec mul-apart along-4-requires same_length returns mul-alongs alongs-requires same-length-2 returns-2)
