-- `worked` meets its contract. Assumes nothing.
use borrow.Author.Rules.{rules}
use native.Mathlib.Omega.{arith}
use mathlib.Core.Path.{◌≡◌, sym, ◌∙◌, subst}
use mathlib.Core.Bool.{true, true≢false}
use Prim.Native.Nat.{ℕ, ◌+◌, ◌*◌, ◌/◌, ◌≤◌, ◌<◌}
use native.Mathlib.Nat.{mul_comm, mul-le-mul, mul-le-mul_right, one-mul}
use lib.IntN.{ℤ, nat_abs}
use lib.ListN.{length}
use mir.Syntax.{w16, w32}
use mir.Val.{SFits, to_z, of_z}
use Rattle.algebra.specs.Lists.{at, tabulate, block}
use Rattle.algebra.proofs.Order.{in-fits}
use Rattle.algebra.proofs.Machine.{arg, cast, cast_fits, val}
use Rattle.layout.proofs.Zipping.{size-even}
use Rattle.inverse_stage.specs.Given.{GivenStages}
use Rattle.meaning.proofs.Cases.{size_in}
use Rattle.kernel_picks.specs.Picks.{is_kernel}
use Rattle.kernel_picks.proofs.Cases.{few-live}
use Rattle.dct2_block.specs.Stages.{residual_by}
use Rattle.dct2_block.specs.Alone.{flat_of}
use Rattle.dct2_block.proofs.Block.{asked, worked-block, worked-rails, flat-rails, flat_block}
use Rattle.dct2_block.proofs.worked.worked.Statement.{statement}
use Rattle.dct2_block.proofs.worked.worked.Tie as tie

given : (c : tie.Start) → GivenStages c.args.shape c.args.rows c.args.columns c.args.c.now c.args.r.now
given c = c.requires.0

cast-w : tie.Need-overflow_cast-w
cast-w c = search rules

cast-h : tie.Need-overflow_cast-h
cast-h c = search rules

last-shift-requires : tie.Need-last_shift-last-requires
last-shift-requires c κs = (given c.before.before).block.taken.depth

alone-requires : tie.Need-alone-requires
alone-requires c κs =
    let s = c.before.before.before in
    let g = given s in
    let a = s.args in
    (omega (arith, (size-even a.columns g.size-columns).0, g.live.narrow), (omega (arith, (size-even a.rows g.size-rows).0), omega (arith, g.block.long, mul_comm a.shape.width a.shape.height, mul-le-mul_right a.shape.width g.live.low)))

-- the first number: it is there, and has 16 bits
there : (c : tie.Start) → 0 < length c.args.c.now
there c =
    let g = given c in
    let a = c.args in
    let w : 4 ≤ a.shape.width = omega (arith, (size-even a.columns g.size-columns).0, g.live.narrow) in
    let h : 1 ≤ a.shape.height = omega (arith, (size-even a.rows g.size-rows).0, g.live.low) in
    omega (arith, g.block.long, mul_comm a.shape.width a.shape.height, mul-le-mul_right a.shape.width h, one-mul a.shape.width)

shared-slice-copy-out-flat : tie.Need-bounds-c-0
shared-slice-copy-out-flat c = omega (arith, there c.before.before.before.before.before)

fits : (c : tie.After-flat-arg-1) → SFits w16 (at c.before.before.before.before.before.before.args.c.now 0)
fits c = record { sfits = c.flat-arg-1.given }

first-is : (c : tie.After-flat-arg-1) → let z = at c.before.before.before.before.before.before.args.c.now 0 in to_z w32 (of_z w32 (to_z w16 (of_z w16 z))) ≡ z
first-is c = val (cast w32 (arg {w = w16} (fits c)) tt)

in-16 : (c : tie.After-flat-arg-1) → nat_abs (at c.before.before.before.before.before.before.args.c.now 0) ≤ 32768
in-16 c = (in-fits (fits c)).within

cast-flat : tie.Need-overflow_cast-c
cast-flat c = cast_fits w32 (arg {w = w16} (fits c)) tt

flat-requires : tie.Need-flat-requires
flat-requires c κs = (subst (λ (z : ℤ). nat_abs z ≤ 32768) (sym (first-is c.before)) (in-16 c.before), c.before.before.before.before.last_shift-last.ensures.1)

same_length : tie.Need-shape_of-r-then-alone
same_length c = search rules

returns : tie.Need-returns-then-alone
returns c e =
    let F = c.before.before.before in
    let A = F.before.before in
    let L = A.before in
    let s = L.before.before.before in
    let g = given s in
    let clear = A.alone.ensures F.before.if-alone.true in (
      flat-rails g s.requires.1.0 s.requires.1.1 clear (in-16 F),
      flat_block g s.requires.1.0 s.requires.1.1 clear (in-16 F) (c.before.flat.ensures ∙ (λ t. tabulate (length s.args.r.now) (λ _. flat_of (L.last_shift-last.ensures.0 t) (first-is F t)))),
    )

is-corner-requires : tie.Need-is_corner-requires
is-corner-requires c κs = search rules

returns-2 : tie.Need-returns-then-is_corner
returns-2 c e = absurd (true≢false (sym e))

strip-of-requires : tie.Need-strip_of-requires
strip-of-requires c κs = search rules

live-of-requires : tie.Need-live_of-high-requires
live-of-requires c κs =
    let g = given c.before.before.before.before.before.before.before.before in
    (g.block.taken.height, g.live.low)

returns-3 : tie.Need-returns-then-high-eq0
returns-3 c e = absurd (true≢false (sym e))

strip-of-requires-2 : tie.Need-strip_of-requires-2
strip-of-requires-2 c κs = search rules

live-of-requires-2 : tie.Need-live_of-wide-requires
live-of-requires-2 c κs =
    let g = given c.before.before.before.before.before.before.before.before.before.before.before in
    (g.block.taken.width, g.live.narrow)

returns-4 : tie.Need-returns-then-wide-eq0
returns-4 c e = absurd (true≢false (sym e))

-- the kernel of the rows has few inputs, and the block few rows
small : (c : tie.After-live_of-wide) → 0 < c.live_of-wide.result → (c.live_of-wide.result ≤ 32) × (c.before.before.before.before.before.before.before.before.before.before.before.before.args.shape.height ≤ 32)
small c p =
    let s = c.before.before.before.before.before.before.before.before.before.before.before.before in
    let g = given s in
    let n : s.args.shape.width ≤ 32 = size_in s.args.shape.width g.block.taken.width in
    (omega (arith, few-live c.before.strip_of-2.result s.args.shape.width c.live_of-wide.result (c.live_of-wide.ensures p).0), size_in s.args.shape.height g.block.taken.height)

add-if5 : tie.Need-overflow_add-wide
add-if5 c = let p : 0 < c.before.live_of-wide.result = omega (arith, c.if-wide-eq0.false) in omega (arith, (small c.before p).0)

mul-if5 : tie.Need-overflow_mul-wide
mul-if5 c =
    let p : 0 < c.before.live_of-wide.result = omega (arith, c.if-wide-eq0.false) in
    let k : (c.before.live_of-wide.result + 7) / 8 ≤ 4 = omega (arith, (small c.before p).0) in
    let s = c.before.before.before.before.before.before.before.before.before.before.before.before.before in
    let m : (c.before.live_of-wide.result + 7) / 8 * s.args.shape.height ≤ 4 * 32 = mul-le-mul k (small c.before p).1 in
    omega arith

returns-5 : tie.Need-returns-then-wide-h-gt128
returns-5 c e = absurd (true≢false (sym e))

stages-requires : tie.Need-stages-requires
stages-requires c κs =
    let W = c.before.before.before in
    let T = W.before in
    let H = T.before.before in
    let S = H.before in
    let L = S.before.before.before.before.before in
    let s = L.before.before.before in
    let a = s.args in
    let down = H.live_of-high.ensures (omega (arith, T.before.if-high-eq0.false)) in
    let along = W.live_of-wide.ensures (omega (arith, c.before.before.if-wide-eq0.false)) in
    asked (given s) L.last_shift-last.ensures.1
    (subst (λ (k : ℕ). is_kernel k a.shape.height H.live_of-high.result ≡ true) S.strip_of.ensures down.0, down.1)
    (subst (λ (k : ℕ). is_kernel k a.shape.width W.live_of-wide.result ≡ true) T.strip_of-2.ensures along.0, along.1) c.before.if-wide-h-gt128.false

same-length-2 : tie.Need-shape_of-r-then-stages
same-length-2 c = search rules

returns-6 : tie.Need-returns-then-stages
returns-6 c e = absurd (true≢false (sym e))

same-length-3 : tie.Need-shape_of-r
same-length-3 c = search rules

returns-7 : tie.Need-returns
returns-7 c e =
    let S = c.before.before in
    let L = S.before.before.before.before.before.before.before.before.before.before.before.before.before in
    let s = L.before.before.before in
    let g = given s in
    let a = s.args in (
      worked-rails g s.requires.1.0 s.requires.1.1 (S.stages.ensures.1 c.if-stages.false),
      S.stages.ensures.0 ∙ (λ t. block a.shape.width a.shape.height (residual_by a.shape.width a.shape.height (L.last_shift-last.ensures.0 t) a.shape.width a.rows a.columns a.c.now)) ∙ worked-block g s.requires.1.0 s.requires.1.1,
    )

pub worked_spec : {M : Type 1} → statement M
worked_spec =
    tie.close
    (tie.spec
    cast-w
    cast-h
    last-shift-requires
    alone-requires
    shared-slice-copy-out-flat
    cast-flat
    flat-requires
    same_length
    returns
    is-corner-requires
    returns-2
    strip-of-requires
    live-of-requires
    returns-3
    strip-of-requires-2
    live-of-requires-2
    returns-4
    add-if5
    mul-if5
    returns-5
    stages-requires
    same-length-2
    returns-6
    same-length-3
    returns-7)
