-- `stages::small` meets its contract: its lines are those of both stages. Assumes nothing.
use borrow.Author.Rules.{rules}
use native.Mathlib.Omega.{arith}
use mathlib.Core.Path.{◌≡◌, refl, sym, ◌∙◌}
use mathlib.Core.Logic.{⊎_elim}
use mathlib.Core.List.{List}
use Prim.Native.Nat.{◌*◌, ◌<◌}
use lib.ListN.{length}
use lib.IntN.{ℤ}
use Rattle.meaning.specs.Plan.{plan_of}
use Rattle.meaning.specs.Inverse.{rails}
use Rattle.meaning.proofs.Cases.{size_in}
use Rattle.inverse_stage.specs.Given.{GivenStages, Room}
use Rattle.inverse_stage.proofs.Work.{plan-given, four, eight-of, zip-given, settled, counted, block-long, First, first-room, first_part, settle-given, Down, Along, room-weights, down-asks, down-leaves, held-long, along-asks, along-leaves}
use Rattle.inverse_block.proofs.stages.small.Statement.{statement}
use Rattle.inverse_block.proofs.stages.small.Tie as tie

given : (s : tie.Start) → GivenStages s.args.shape s.args.rows s.args.columns s.args.c.now s.args.r.now
given s = s.requires.0

fits : (s : tie.Start) → Room 128 (plan_of s.args.shape) s.args.rows s.args.columns
fits s = s.requires.1

eight-rows : (s : tie.Start) → 4 < s.args.rows → 2 * 4 ≡ s.args.rows
eight-rows s = eight-of (given s).size-rows (given s).live.low (fits s).down

eight-columns : (s : tie.Start) → 4 < s.args.columns → 2 * 4 ≡ s.args.columns
eight-columns s = eight-of (given s).size-columns (given s).live.narrow (fits s).along

cast-w : tie.Need-overflow_cast-w
cast-w c = search rules

cast-h : tie.Need-overflow_cast-h
cast-h c = search rules

mul-elements : tie.Need-overflow_mul-elements
mul-elements c = omega (arith, (fits c.before.before).between)

mul_wide : tie.Need-overflow_mul-wide
mul_wide c = omega (arith, size_in c.before.before.args.columns (given c.before.before).size-columns)

mul-tall : tie.Need-overflow_mul-tall
mul-tall c = omega (arith, size_in c.before.before.args.shape.height (given c.before.before).block.taken.height)

mul-full : tie.Need-overflow_mul-full
mul-full c = omega (arith, size_in c.before.before.args.shape.width (given c.before.before).block.taken.width)

slice-aggregate-zip : tie.Need-slice_bounds-zip-end
slice-aggregate-zip c = refl

zip-requires : tie.Need-zip-requires
zip-requires c κs = let s = c.before.before.before in zip-given (given s) (fits s) refl

put-128-requires : tie.Need-put_128-requires
put-128-requires c κs = ((given c.before.before.before.before.before.before).block.taken.height, refl)

-- the lines down the columns
abbrev start : tie.After-put_128 → tie.Start
start c = c.before.before.before.before.before.before.before

abbrev zipped : tie.After-put_128 → List ℤ
zipped c = c.before.before.before.zip.new.z

zipped-long : (c : tie.After-put_128) → length (zipped c) ≡ 128
zipped-long c = let e : 128 ≡ length (zipped c) = search rules in sym e

down : (c : tie.After-put_128) → Down (plan-given (given (start c))) c.put_128.new.u (zipped c)
down c =
    let s = start c in
    record {
      weights = room-weights 128 s.args.shape.vertical s.args.shape.height s.args.rows c.put_128.ensures.1 (given s).live.low (fits s).down;
      zipped = c.before.before.before.zip.ensures;
    }

slice-aggregate-lines : tie.Need-slice_bounds-lines-end
slice-aggregate-lines c = search rules

slice-aggregate-lines-2 : tie.Need-slice_bounds-lines-end-then-rows-le4
slice-aggregate-lines-2 c = search rules

lines-requires : tie.Need-lines-requires
lines-requires c κs = let I = c.before.before.before in down-asks (down I.before) 2 (four (given (start I.before)).size-rows I.if-rows-le4.true)

slice-aggregate-lines-3 : tie.Need-slice_bounds-lines-end-else-rows-le4
slice-aggregate-lines-3 c = search rules

slice-aggregate-lines-4 : tie.Need-slice_bounds-lines-end-else-rows-le4-2
slice-aggregate-lines-4 c = search rules

lines-requires-2 : tie.Need-lines-requires-else-rows-le4
lines-requires-2 c κs = let I = c.before.before.before in down-asks (down I.before) 4 (eight-rows (start I.before) I.if-rows-le4.false)

-- what stands in r after the first stage
first : (c : tie.Joined-rows-le4) → First (plan-given (given (start c.before))) c.if-rows-le4.r
first c =
    let d = down c.before in
    let s = start c.before in
    ⊎_elim
    (λ t. down-leaves d 2 (four (given s).size-rows t.if-rows-le4.true) (t.r-is ∙ t.lines.ensures))
    (λ t. down-leaves d 4 (eight-rows s t.if-rows-le4.false) (t.r-is ∙ t.lines-else-rows-le4.ensures))
    c.if-rows-le4.branch-raw

sub-settle : tie.Need-slice_bounds-settle-count
sub-settle c = omega arith

part-settle-start : tie.Need-slice_bounds-settle-start
part-settle-start c = omega arith

part-settle-end : tie.Need-slice_bounds-settle-end
part-settle-end c = first-room (plan-given (given (start c.before))) (first c)

sub-settle-2 : tie.Need-slice_bounds-settle-count-2
sub-settle-2 c = omega arith

part-z-start : tie.Need-slice_bounds-z-start
part-z-start c = omega arith

part-z-end : tie.Need-slice_bounds-z-end
part-z-end c = let W = c.before.before in omega (arith, (fits (start W)).between, zipped-long W)

settle-requires : tie.Need-settle-rails-requires
settle-requires c κs =
    let J = c.before.before.before in
    let W = J.before in
    settle-given (plan-given (given (start J))) (first c.before.before) (zipped J) (fits (start J)) (zipped-long J) (omega arith)

abbrev joined : tie.After-settle-rails → tie.Joined-rows-le4
joined c = c.before.before.before

abbrev origin : tie.After-settle-rails → tie.Start
origin c = start (joined c).before

last-shift-requires : tie.Need-last_shift-last-requires
last-shift-requires c κs = (given (origin c.before)).block.taken.depth

half-requires : tie.Need-half-half-requires
half-requires c κs = c.last_shift-last.ensures.1

put-128-requires-2 : tie.Need-put_128-requires-2
put-128-requires-2 c κs = let S = c.before.before.before.before in ((given (origin S)).block.taken.width, (joined S).before.put_128.ensures.0)

-- the lines along the rows
abbrev middle : tie.After-put_128-2 → tie.After-settle-rails
middle c = c.before.before.before.before.before

along : (c : tie.After-put_128-2) → let S = middle c in
    Along (plan-given (given (origin S))) 128 (joined S).if-rows-le4.r S.settle-rails.new.m (zipped (joined S).before) c.put_128-2.new.u c.before.before.half-half.result c.before.before.before.last_shift-last.result
along c =
    let S = middle c in
    let J = joined S in
    record {
      fits = fits (origin S);
      first = first J;
      settled = settled (plan-given (given (origin S))) (first_part (plan-given (given (origin S))) (first J)) S.settle-rails.ensures;
      long = zipped-long J.before;
      weights = room-weights 128 (origin S).args.shape.horizontal (origin S).args.shape.width (origin S).args.columns c.put_128-2.ensures.1 (given (origin S)).live.narrow (fits (origin S)).along;
      rounding = c.before.before.half-half.ensures;
      shift = c.before.before.before.last_shift-last.ensures.0;
    }

slice-aggregate-lines-5 : tie.Need-slice_bounds-lines-end-then-columns-le4
slice-aggregate-lines-5 c = held-long (along c.before.before)

slice-aggregate-lines-6 : tie.Need-slice_bounds-lines-end-then-columns-le4-2
slice-aggregate-lines-6 c = search rules

lines-requires-3 : tie.Need-lines-requires-then-columns-le4
lines-requires-3 c κs = let I = c.before.before.before in along-asks (along I.before) 2 (four (given (origin (middle I.before))).size-columns I.if-columns-le4.true)

slice-aggregate-lines-7 : tie.Need-slice_bounds-lines-end-else-columns-le4
slice-aggregate-lines-7 c = held-long (along c.before.before)

slice-aggregate-lines-8 : tie.Need-slice_bounds-lines-end-else-columns-le4-2
slice-aggregate-lines-8 c = search rules

lines-requires-4 : tie.Need-lines-requires-else-columns-le4
lines-requires-4 c κs = let I = c.before.before.before in along-asks (along I.before) 4 (eight-columns (origin (middle I.before)) I.if-columns-le4.false)

-- what is handed back
rails-are : (c : tie.After-settle-rails) → c.settle-rails.result ≡ rails (plan_of (origin c).args.shape) (origin c).args.c.now
rails-are c = counted (plan-given (given (origin c))) (first_part (plan-given (given (origin c))) (first (joined c))) c.settle-rails.ensures

returns : tie.Need-returns-then-columns-le4
returns c =
    let I = c.before.before.before.before.before in
    let W = I.before in
    (rails-are (middle W), along-leaves (along W) 2 (four (given (origin (middle W))).size-columns I.if-columns-le4.true) c.before.lines-then-columns-le4.ensures)

same_length : tie.Need-shape_of-r-then-columns-le4
same_length c = block-long (plan-given (given (origin (middle c.before.before.before.before.before.before)))) (returns c).1

returns-2 : tie.Need-returns-else-columns-le4
returns-2 c =
    let I = c.before.before.before.before.before in
    let W = I.before in
    (rails-are (middle W), along-leaves (along W) 4 (eight-columns (origin (middle W)) I.if-columns-le4.false) c.before.lines-else-columns-le4.ensures)

same-length-2 : tie.Need-shape_of-r-else-columns-le4
same-length-2 c = block-long (plan-given (given (origin (middle c.before.before.before.before.before.before)))) (returns-2 c).1

pub small_spec : {M : Type 1} → statement M
small_spec =
    tie.close
    (tie.spec
    cast-w
    cast-h
    mul-elements
    mul_wide
    mul-tall
    mul-full
    slice-aggregate-zip
    zip-requires
    put-128-requires
    slice-aggregate-lines
    slice-aggregate-lines-2
    lines-requires
    slice-aggregate-lines-3
    slice-aggregate-lines-4
    lines-requires-2
    sub-settle
    part-settle-start
    part-settle-end
    sub-settle-2
    part-z-start
    part-z-end
    settle-requires
    last-shift-requires
    half-requires
    put-128-requires-2
    slice-aggregate-lines-5
    slice-aggregate-lines-6
    lines-requires-3
    slice-aggregate-lines-7
    slice-aggregate-lines-8
    lines-requires-4
    same_length
    returns
    same-length-2
    returns-2)
