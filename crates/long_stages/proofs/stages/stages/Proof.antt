-- `stages` meets its contract: middle values, then residuals from them. Assumes nothing.
use borrow.Author.Rules.{rules}
use native.Mathlib.Omega.{arith}
use mathlib.Core.Path.{◌≡◌, refl, sym, ap, ◌∙◌, subst}
use mathlib.Core.List.{List, ◌++◌}
use Prim.Native.Nat.{ℕ, ◌*◌, ◌≤◌}
use native.Mathlib.Nat.{mul_comm, mul-le-mul}
use lib.ListN.{drop, replicate}
use lib.IntN.{ℤ, pos}
use Rattle.algebra.specs.Sum.{sumℕ}
use Rattle.algebra.specs.Shift.{nearest}
use Rattle.algebra.specs.Lists.{block}
use Rattle.meaning.specs.Plan.{range_of, reach, long_plan}
use Rattle.meaning.specs.Inverse.{middle, rails}
use Rattle.meaning.proofs.LongRules.{long-depth}
use Rattle.long_stages.specs.Work.{column_at, rail_of, Down, row_at, Along, GivenLong}
use Rattle.long_stages.proofs.Whole.{wide, low, columns-given, rails-read, rows-given, block_read}
use Rattle.long_stages.proofs.stages.stages.Statement.{statement}
use Rattle.long_stages.proofs.stages.stages.Tie as tie

given : (s : tie.Start) → GivenLong s.args.extended s.args.shape s.args.rows s.args.columns s.args.c.now s.args.out.now
given s = s.requires

-- the middle values have room
room : (s : tie.Start) → s.args.shape.height * (2 * s.args.columns) ≤ 1024
room s =
    let g = given s in
    let b : 2 * s.args.columns ≤ 32 = omega (arith, g.live.narrow, wide s.args.extended s.args.shape s.args.rows s.args.columns s.args.c.now s.args.out.now g) in
    mul-le-mul (low s.args.extended s.args.shape s.args.rows s.args.columns s.args.c.now s.args.out.now g) b

cast-w : tie.Need-overflow_cast-w
cast-w c = search rules

cast-h : tie.Need-overflow_cast-h
cast-h c = search rules

reach-of-requires : tie.Need-reach_of-reach-requires
reach-of-requires c κs = search rules

last-shift-requires : tie.Need-last_shift-last-requires
last-shift-requires c κs =
    let s = c.before.before.before in
    (long-depth s.args.extended s.args.shape.depth (given s).block.taken.depth).1

put-1024-requires : tie.Need-put_1024-requires
put-1024-requires c κs = ((given c.before.before.before.before.before).block.taken.height, refl)

slice-aggregate-middles : tie.Need-slice_bounds-middles-end
slice-aggregate-middles c = sym c.before.put_1024.ensures.0

mul-middles : tie.Need-overflow_mul-columns
mul-middles c =
    let s = c.before.before.before.before.before.before.before in
    omega (arith, (given s).live.narrow, wide s.args.extended s.args.shape s.args.rows s.args.columns s.args.c.now s.args.out.now (given s))

slice-aggregate-middles-2 : tie.Need-slice_bounds-middles-end-2
slice-aggregate-middles-2 c = search rules

-- the weights of the columns
abbrev down : tie.After-put_1024 → List ℤ
down c = c.put_1024.new.u

middles-requires : tie.Need-middles-rails-requires
middles-requires c κs =
    let W = c.before.before in
    let R = W.before.before.before in
    let s = R.before.before.before in
    let a = s.args in (
      subst (λ (r : ℕ). Down (down W) a.shape.height a.c.now a.shape.width a.rows (2 * a.columns) r) (sym R.reach_of-reach.ensures)
          (columns-given a.extended a.shape a.rows a.columns a.c.now a.out.now (given s) (down W) W.put_1024.ensures.1),
      room s,
    )

-- what the first stage has left
abbrev laid : tie.After-middles-rails → tie.After-put_1024
laid c = c.before.before.before

abbrev start : tie.After-middles-rails → tie.Start
start c = (laid c).before.before.before.before.before.before

abbrev between : tie.After-middles-rails → List ℤ
between c = c.middles-rails.new.m

abbrev rest : tie.After-middles-rails → List ℤ
rest c = drop ((start c).args.shape.height * (2 * (start c).args.columns)) (replicate 1024 (pos 0))

made : (c : tie.After-middles-rails) → let a = (start c).args in
    between c ≡ block (2 * a.columns) a.shape.height (λ x y. middle (range_of (reach a.extended a.shape.depth)) (column_at (down (laid c)) a.shape.height a.c.now a.shape.width a.rows x y)) ++ rest c
made c =
    let a = (start c).args in
    c.middles-rails.ensures.0
    ∙ ap (λ (r : ℕ). block (2 * a.columns) a.shape.height (λ x y. middle (range_of r) (column_at (down (laid c)) a.shape.height a.c.now a.shape.width a.rows x y)) ++ rest c) (laid c).before.before.before.reach_of-reach.ensures

counted : (c : tie.After-middles-rails) → let a = (start c).args in c.middles-rails.result ≡ rails (long_plan a.extended a.shape) a.c.now
counted c =
    let a = (start c).args in
    c.middles-rails.ensures.1
    ∙ ap (λ (r : ℕ). sumℕ a.shape.height (λ y. sumℕ (2 * a.columns) (λ x. rail_of r (column_at (down (laid c)) a.shape.height a.c.now a.shape.width a.rows x y)))) (laid c).before.before.before.reach_of-reach.ensures
    ∙ rails-read a.extended a.shape a.rows a.columns a.c.now a.out.now (given (start c)) (down (laid c)) (laid c).put_1024.ensures.1

put-1024-requires-2 : tie.Need-put_1024-requires-2
put-1024-requires-2 c κs = let M = c.before.before in ((given (start M)).block.taken.width, (laid M).put_1024.ensures.0)

slice-aggregate-residuals : tie.Need-slice_bounds-residuals-end
slice-aggregate-residuals c = sym c.before.put_1024-2.ensures.0

slice-aggregate-residuals-2 : tie.Need-slice_bounds-residuals-end-2
slice-aggregate-residuals-2 c = search rules

mul-residuals : tie.Need-overflow_mul-columns-2
mul-residuals c =
    let s = start c.before.before.before.before.before in
    omega (arith, (given s).live.narrow, wide s.args.extended s.args.shape s.args.rows s.args.columns s.args.c.now s.args.out.now (given s))

-- the weights of the rows, in the same room
abbrev along : tie.After-put_1024-2 → List ℤ
along c = c.put_1024-2.new.u

residuals-requires : tie.Need-residuals-requires
residuals-requires c κs =
    let W = c.before.before.before in
    let M = W.before.before.before in
    let s = start M in
    let a = s.args in (
      subst (λ (last : ℕ). Along (along W) a.shape.width a.shape.height (between M) (2 * a.columns) a.columns last) (sym (laid M).before.before.last_shift-last.ensures)
          (rows-given a.extended a.shape a.rows a.columns a.c.now a.out.now (given s) (down (laid M)) (laid M).put_1024.ensures.1 (between M) (rest M) (made M) (along W) W.put_1024-2.ensures.1),
      (given s).block.room ∙ mul_comm a.shape.width a.shape.height,
    )

same_length : tie.Need-shape_of-out
same_length c = search rules

returns : tie.Need-returns
returns c =
    let W = c.before.before.before.before.before in
    let M = W.before.before.before in
    let s = start M in
    let a = s.args in (
      counted M,
      c.before.residuals.ensures
          ∙ ap (λ (last : ℕ). block a.shape.width a.shape.height (λ x y. nearest last (row_at (along W) a.shape.width (between M) (2 * a.columns) a.columns x y))) (laid M).before.before.last_shift-last.ensures
          ∙ block_read a.extended a.shape a.rows a.columns a.c.now a.out.now (given s) (down (laid M)) (laid M).put_1024.ensures.1 (between M) (rest M) (made M) (along W) W.put_1024-2.ensures.1,
    )

pub stages_spec : {M : Type 1} → statement M
stages_spec =
    tie.close
    (tie.spec
    cast-w
    cast-h
    reach-of-requires
    last-shift-requires
    put-1024-requires
    slice-aggregate-middles
    mul-middles
    slice-aggregate-middles-2
    middles-requires
    put-1024-requires-2
    slice-aggregate-residuals
    slice-aggregate-residuals-2
    mul-residuals
    residuals-requires
    same_length
    returns)
