-- `down` meets its contract: the one strip of 4, or strips of 8. Assumes nothing.
use borrow.Author.Rules.{rules}
use native.Mathlib.Omega.{arith}
use mathlib.Core.Path.{◌≡◌, sym, ap, ◌∙◌, subst}
use mathlib.Core.Bool.{true}
use Prim.Native.Nat.{ℕ, ◌*◌, ◌%◌, ◌≤◌, ◌<◌, min}
use Rattle.kernel_picks.specs.Picks.{is_kernel}
use Rattle.dct2_block.specs.Stages.{middle_of, Tiles}
use Rattle.dct2_block.proofs.Kernel.{narrow-is, wide_is}
use Rattle.dct2_block.proofs.Strips.{strip-4, first-strip}
use Rattle.dct2_block.proofs.down.down.Statement.{statement}
use Rattle.dct2_block.proofs.down.down.Tie as tie

-- a width below 8 is 4, and so are its columns
narrow : (c : tie.Start) → c.args.w < 8 → (c.args.w ≡ 4) × (c.args.columns ≡ 4)
narrow c h = let g = c.requires.0 in narrow-is c.args.w c.args.columns g.width h g.narrow g.strips g.some

eight : (c : tie.Start) → 8 ≤ c.args.w → min c.args.w 8 ≡ 8
eight c h = (wide_is c.args.w c.requires.0.width h).0

down-4-requires : tie.Need-down_4-requires
down-4-requires c κs =
    let s = c.before.before in
    let g = s.requires.0 in
    let n = narrow s c.before.if-w-lt8.true in (
      subst (λ (k : ℕ). is_kernel k s.args.h s.args.high ≡ true) (ap (λ (w : ℕ). min w 8) n.0) g.kernel,
      (
        record { few = g.few; there = λ y x a b. omega (arith, g.there x y (omega (arith, n.1)) a) },
        s.requires.1 ∙ ap (λ (k : ℕ). k * s.args.h) n.1,
      ),
    )

same_length : tie.Need-shape_of-m-then-w-lt8
same_length c = search rules

returns : tie.Need-returns-then-w-lt8
returns c =
    let s = c.before.before.before.before in
    let a = s.args in
    let n = narrow s c.before.before.before.if-w-lt8.true in
    let m = c.before.down_4.new.m in
    let t = strip-4 {apart = min a.w 8 * a.h} (first-strip a.stride a.rows a.c.now m c.before.down_4.ensures) in
    subst (λ (k : ℕ). Tiles (min a.h 8) (min a.w 8) (min a.w 8 * a.h) k a.h (middle_of a.h a.stride a.rows a.c.now) m) (sym n.1)
    (subst (λ (k : ℕ). Tiles (min a.h 8) k (min a.w 8 * a.h) 4 a.h (middle_of a.h a.stride a.rows a.c.now) m) (sym (ap (λ (w : ℕ). min w 8) n.0)) t)

downs-requires : tie.Need-downs-requires
downs-requires c κs =
    let s = c.before.before in
    let g = s.requires.0 in
    (subst (λ (k : ℕ). is_kernel k s.args.h s.args.high ≡ true) (eight s c.before.if-w-lt8.false) g.kernel, (g.few, (subst (λ (k : ℕ). s.args.columns % k ≡ 0) (eight s c.before.if-w-lt8.false) g.strips, (g.there, s.requires.1))))

same-length-2 : tie.Need-shape_of-m
same-length-2 c = search rules

returns-2 : tie.Need-returns
returns-2 c =
    let s = c.before.before.before.before in
    let a = s.args in
    subst (λ (k : ℕ). Tiles (min a.h 8) k (k * a.h) a.columns a.h (middle_of a.h a.stride a.rows a.c.now) c.before.downs.new.m) (sym (eight s c.before.before.before.if-w-lt8.false)) c.before.downs.ensures

pub down_spec : {M : Type 1} → statement M
down_spec = tie.close (tie.spec down-4-requires same_length returns downs-requires same-length-2 returns-2)
