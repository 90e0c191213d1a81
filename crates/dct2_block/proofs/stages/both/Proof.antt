-- `both` meets its contract: the first stage into the front of the room, the second from it. Assumes nothing.
use borrow.Author.Rules.{rules}
use native.Mathlib.Omega.{arith}
use mathlib.Core.Path.{◌≡◌, sym, ap, ◌∙◌, subst}
use mathlib.Core.List.{List, ◌++◌}
use Prim.Native.Nat.{ℕ, ◌*◌, ◌-◌, ◌^◌, ◌≤◌, ◌<◌, min}
use lib.Pow.{pow_mono}
use lib.IntN.{ℤ, nat_abs}
use lib.ListN.{length, take, drop, length-append, length-drop}
use lib.Seq.{take-length}
use mir.Syntax.{w32}
use mir.Val.{to_z, of_z}
use Rattle.algebra.specs.Lists.{at}
use Rattle.algebra.proofs.Lists.{block_cong, block-length, part-long, part_same}
use Rattle.product.specs.Product.{shifted}
use Rattle.product.proofs.Laid.{half_is}
use Rattle.dct2_block.specs.Stages.{middle_of, place_of, Tiles, Read, Inner, Rounded}
use Rattle.dct2_block.proofs.Rooms.{front, across-sum}
use Rattle.dct2_block.proofs.stages.both.Statement.{statement}
use Rattle.dct2_block.proofs.stages.both.Tie as tie

mul-e : tie.Need-overflow_mul-e
mul-e c = omega (arith, c.requires.room)

sub-down : tie.Need-slice_bounds-down-count
sub-down c = omega arith

part-down-start : tie.Need-slice_bounds-down-start
part-down-start c = omega arith

part-down-end : tie.Need-slice_bounds-down-end
part-down-end c = omega arith

sub-down-2 : tie.Need-slice_bounds-down-count-2
sub-down-2 c = omega arith

part-down-start-2 : tie.Need-slice_bounds-down-start-2
part-down-start-2 c = omega arith

part-down-end-2 : tie.Need-slice_bounds-down-end-2
part-down-end-2 c = omega (arith, c.before.requires.room)

front_long : (c : tie.Start) → length (take (c.args.columns * c.args.h - 0) c.args.m.now) ≡ c.args.columns * c.args.h
front_long c = part-long (c.args.columns * c.args.h) c.args.m.now c.requires.room

-- c, handed on from its first number
again : (c : tie.Start) → take (length c.args.c.now - 0) c.args.c.now ≡ c.args.c.now
again c =
    let l = c.args.c.now in
    let n : length l - 0 ≡ length l = omega arith in
    ap (λ (n : ℕ). take n l) n ∙ take-length l

down-requires : tie.Need-down-requires
down-requires c κs =
    let s = c.before.before in
    let a = s.args in
    (subst (Read a.w a.h a.stride a.rows a.columns a.high) (sym (again s)) s.requires.read, front_long s)

-- the middle values, and the room that they stand in
abbrev middles : tie.After-down → List ℤ
middles c = c.down.new.m

middles-long : (c : tie.After-down) → length (middles c) ≡ c.before.before.before.args.columns * c.before.before.before.args.h
middles-long c = c.down.auto.m ∙ front_long c.before.before.before

abbrev all : tie.After-down → List ℤ
all c = let s = c.before.before.before.args in middles c ++ drop (s.columns * s.h - 0) s.m.now

filled : (c : tie.After-down) → let a = c.before.before.before.args in
    Tiles (min a.h 8) (min a.w 8) (min a.w 8 * a.h) a.columns a.h (middle_of a.h a.stride a.rows a.c.now) (middles c)
filled c =
    let s = c.before.before.before in
    let a = s.args in
    subst (λ (l : List ℤ). Tiles (min a.h 8) (min a.w 8) (min a.w 8 * a.h) a.columns a.h (middle_of a.h a.stride a.rows l) (middles c)) (again s) c.down.ensures

all-long : (c : tie.After-down) → length (all c) ≡ length c.before.before.before.args.m.now
all-long c =
    let s = c.before.before.before.args in
    length-append (middles c) (drop (s.columns * s.h - 0) s.m.now) ∙ omega (arith, middles-long c, length-drop (s.columns * s.h - 0) s.m.now, c.before.before.before.requires.room)

strip-of-requires : tie.Need-strip_of-requires
strip-of-requires c κs = search rules

half-requires : tie.Need-half-requires
half-requires c κs = let s = c.before.before.before.before.before in (s.requires.some, s.requires.short)

-- what `half` gave
rounding : (c : tie.After-half) → Rounded (to_z w32 (of_z w32 c.half.result)) c.before.before.before.before.before.before.args.shift
rounding c =
    let s = c.before.before.before.before.before.before in
    let p : 2 ^ (s.args.shift - 1) ≤ 524288 = pow_mono {j = 19} (omega (arith, s.requires.short)) in
    record { small = subst (λ (z : ℤ). nat_abs z ≤ 1000000) (sym (half_is c.half.ensures)) (omega arith); short = omega (arith, s.requires.short) }

along-requires : tie.Need-along-requires
along-requires c κs =
    let H = c.before in
    let D = H.before.before.before in
    let s = D.before.before in (
      record { height = s.requires.across.height; kernel = s.requires.across.kernel; there = λ x y a b. subst (λ (n : ℕ). place_of (min s.args.h 8) (min s.args.w 8) (min s.args.w 8 * s.args.h) x y < n) (sym (all-long D)) (s.requires.across.there x y a b) },
      (rounding H, (H.before.strip_of.ensures, s.requires.out)),
    )

sub-touched : tie.Need-slice_bounds-touched-count
sub-touched c = omega arith

part-touched-start : tie.Need-slice_bounds-touched-start
part-touched-start c = omega arith

part-touched-end : tie.Need-slice_bounds-touched-end
part-touched-end c = let D = c.before.before.before.before.before.before in omega (arith, all-long D, D.before.before.before.requires.room)

touched-requires : tie.Need-touched-requires
touched-requires c κs = search rules

same_length : tie.Need-shape_of-m
same_length c = all-long c.before.before.before.before.before.before.before.before

returns : tie.Need-returns
returns c =
    let A = c.before.before.before in
    let H = A.before.before in
    let D = H.before.before.before in
    let s = D.before in
    let a = s.args in (
      A.along.ensures
          ∙ block_cong a.w a.h _ _ (λ j y h g. (λ t. shifted (half_is H.half.ensures t) a.shift (across-sum s.requires.read a.m.now s.requires.zeros (middles-long D) (filled D) a.wide s.requires.across.kernel j y g t))),
      λ f x y h g. let e = a.columns * a.h in let p = place_of (min a.h 8) (min a.w 8) (min a.w 8 * a.h) x y in
          let same : take (e - 0) (all D) ≡ middles D = part_same e (middles D) (drop (e - 0) a.m.now) (middles-long D) in
          subst Inner (ap (λ (l : List ℤ). at l p) same ∙ (filled D).held x y h g)
          (c.touched.ensures f p (omega (arith, ap length same, middles-long D, front s.requires.read x y h g))),
    )

same-length-2 : tie.Need-shape_of-r
same-length-2 c =
    let s = c.before.before.before.before.before.before.before.before.before.before.before in
    ap length (returns c).0 ∙ block-length s.args.w s.args.h _ ∙ sym s.requires.out

pub both_spec : {M : Type 1} → statement M
both_spec =
    tie.close
    (tie.spec mul-e sub-down part-down-start part-down-end sub-down-2 part-down-start-2 part-down-end-2 down-requires strip-of-requires half-requires along-requires sub-touched part-touched-start part-touched-end touched-requires same_length same-length-2 returns)
