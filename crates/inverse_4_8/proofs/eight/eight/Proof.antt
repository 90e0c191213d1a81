-- `eight::eight` meets its contract: its lines are those of both stages. Assumes nothing.
use borrow.Author.Rules.{rules}
use native.Mathlib.Omega.{arith}
use mathlib.Core.Path.{◌≡◌, refl, sym, ap, ◌∙◌, subst}
use mathlib.Core.List.{List}
use Prim.Native.Nat.{ℕ, ◌+◌, ◌*◌}
use native.Mathlib.Nat.{mul_comm}
use lib.ListN.{length}
use lib.IntN.{ℤ, pos}
use mir.Syntax.{w32}
use mir.Val.{to_z, of_z}
use Rattle.algebra.specs.Lists.{at, block}
use Rattle.algebra.proofs.Lists.{tab-length}
use Rattle.product.specs.Product.{Laid, line_sum, shifted, Lines}
use Rattle.product.proofs.Laid.{half_is, half-rounds}
use Rattle.inverse_stage.specs.Given.{GivenStages}
use Rattle.inverse_4_8.specs.Square.{Square, down_block, along_block}
use Rattle.inverse_stage.proofs.Work.{plan-given, all-written, sums, sums-long, settled, counted, block-long}
use Rattle.inverse_4_8.proofs.Square.{of-square, down_lines, down-sums, along-lines, along-sums, whole-sums, whole-block}
use Rattle.inverse_4_8.proofs.eight.eight.Statement.{statement}
use Rattle.inverse_4_8.proofs.eight.eight.Tie as tie

given : (s : tie.Start) → GivenStages s.args.shape s.args.shape.height s.args.shape.width s.args.c.now s.args.r.now
given s = s.requires.0

square : (s : tie.Start) → Square 8 s.args.shape
square s = s.requires.1.0

elements : (s : tie.Start) → s.args.shape.height * s.args.shape.width ≡ 64
elements s = λ i. (square s).height i * (square s).width i

room : (s : tie.Start) → length s.args.r.now ≡ s.args.shape.height * s.args.shape.width
room s = (given s).block.room ∙ mul_comm s.args.shape.width s.args.shape.height

cast-w : tie.Need-overflow_cast-w
cast-w c = search rules

cast-h : tie.Need-overflow_cast-h
cast-h c = search rules

slice-aggregate-zip : tie.Need-slice_bounds-zip-end
slice-aggregate-zip c = search rules

zip-requires : tie.Need-zip-requires
zip-requires c κs =
    let s = c.before.before.before in
    let e = (square s).width in
    let l : length s.args.c.now ≡ 64 = (given s).block.long ∙ mul_comm s.args.shape.width s.args.shape.height ∙ elements s in
    record { some = omega arith; wide = omega arith; narrow = omega arith; there = omega arith; room = omega arith }

put-requires : tie.Need-put-requires
put-requires c κs = (given c.before.before.before.before.before.before).block.taken.vertical

-- ---- the lines down the columns
abbrev start : tie.After-put → tie.Start
start c = c.before.before.before.before.before.before.before

abbrev zipped : tie.After-put → List ℤ
zipped c = c.before.before.before.zip.new.z

zipped-long : (c : tie.After-put) → length (zipped c) ≡ 64
zipped-long c = let e : 64 ≡ length (zipped c) = search rules in sym e

columns : (c : tie.After-put) → Laid 8 4 2 16 (λ i x. at (start c).args.c.now (x + i * 8)) (zipped c)
columns c = subst (λ (n : ℕ). Laid n 4 2 (2 * n) (λ i x. at (start c).args.c.now (x + i * n)) (zipped c)) (square (start c)).width c.before.before.before.zip.ensures

slice-aggregate-lines : tie.Need-slice_bounds-lines-end
slice-aggregate-lines c = sym c.before.put.ensures.0

slice-aggregate-lines-2 : tie.Need-slice_bounds-lines-end-2
slice-aggregate-lines-2 c = search rules

lines-requires : tie.Need-lines-requires
lines-requires c κs =
    let P = c.before.before.before in
    let s = start P in (
      of-square (λ w h. Lines h w 4 P.put.new.t 2 16 (zipped P) 16) (square s)
          (down_lines s.args.shape.vertical refl (omega arith) (omega arith) P.put.ensures.1 s.args.c.now (columns P)),
      (record { small = omega arith; short = omega arith }, omega (arith, room s)),
    )

abbrev down : tie.After-lines → tie.After-put
down c = c.before.before.before.before

first : (c : tie.After-lines) → c.lines.new.out ≡ sums (plan-given (given (start (down c))))
first c =
    let P = down c in
    let s = start P in
    c.lines.ensures
    ∙ all-written (s.args.shape.height * s.args.shape.width) _ s.args.r.now (omega (arith, room s))
    ∙ of-square (λ w h. block w h (λ x y. shifted (pos 64) 7 (line_sum P.put.new.t (2 * y) 16 (zipped P) 16 4 x)) ≡ down_block s.args.shape.vertical w h s.args.c.now) (square s)
    (down-sums s.args.shape.vertical refl (omega arith) (omega arith) P.put.ensures.1 s.args.c.now (columns P))
    ∙ whole-sums (given s)

first-long : (c : tie.After-lines) → length c.lines.new.out ≡ (start (down c)).args.shape.height * (start (down c)).args.shape.width
first-long c = ap length (first c) ∙ sums-long (plan-given (given (start (down c))))

-- ---- between the stages
slice-aggregate-settle : tie.Need-slice_bounds-settle-end
slice-aggregate-settle c = search rules

settle-requires : tie.Need-settle-rails-requires
settle-requires c κs =
    let L = c.before.before.before in
    let s = start (down c.before.before) in
    let e = first-long c.before.before ∙ elements s in
    (e ∙ sym (zipped-long (down c.before.before)), omega arith)

abbrev work : tie.After-settle-rails → tie.After-lines
work c = c.before.before.before

abbrev origin : tie.After-settle-rails → tie.Start
origin c = start (down (work c))

settled-long : (c : tie.After-settle-rails) → length c.settle-rails.new.m ≡ 64
settled-long c = ap length c.settle-rails.ensures.0 ∙ tab-length _ _ ∙ first-long (work c) ∙ elements (origin c)

last-shift-requires : tie.Need-last_shift-last-requires
last-shift-requires c κs = (given (origin c.before)).block.taken.depth

half-requires : tie.Need-half-half-requires
half-requires c κs = c.last_shift-last.ensures.1

put-requires-2 : tie.Need-put-requires-2
put-requires-2 c κs = let s = origin c.before.before.before.before in rw s.requires.1.1 (given s).block.taken.horizontal

-- ---- the lines along the rows
abbrev middle : tie.After-put-2 → tie.After-settle-rails
middle c = c.before.before.before.before.before

abbrev shift : tie.After-put-2 → ℕ
shift c = c.before.before.before.last_shift-last.result

slice-aggregate-lines-3 : tie.Need-slice_bounds-lines-end-3
slice-aggregate-lines-3 c = sym (settled-long (middle c.before))

slice-aggregate-lines-4 : tie.Need-slice_bounds-lines-end-4
slice-aggregate-lines-4 c = sym c.before.before.put-2.ensures.0

lines-requires-2 : tie.Need-lines-requires-2
lines-requires-2 c κs =
    let P = c.before.before.before in
    let S = middle P in
    let s = origin S in (
      of-square (λ w h. Lines h w 4 S.settle-rails.new.m 8 2 P.put-2.new.t 16) (square s)
          (along-lines s.args.horizontal refl (omega arith) (omega arith) P.put-2.ensures.1 S.settle-rails.new.m (settled-long S)),
      (half-rounds P.before.before.half-half.ensures, omega (arith, first-long (work S))),
    )

returns : tie.Need-returns
returns c =
    let P = c.before.before.before.before.before in
    let S = middle P in
    let s = origin S in
    let last = shift P in
    let m = settled (plan-given (given s)) (first (work S)) S.settle-rails.ensures in (
      counted (plan-given (given s)) (first (work S)) S.settle-rails.ensures,
      c.before.lines-2.ensures
          ∙ all-written (s.args.shape.height * s.args.shape.width) _ (work S).lines.new.out (omega (arith, first-long (work S)))
          ∙ of-square (λ w h. block w h (λ x y. shifted (to_z w32 (of_z w32 P.before.before.half-half.result)) last (line_sum S.settle-rails.new.m (8 * y) 2 P.put-2.new.t 16 4 x)) ≡ along_block s.args.horizontal w h S.settle-rails.new.m last) (square s)
          (along-sums s.args.horizontal refl (omega arith) (omega arith) P.put-2.ensures.1 S.settle-rails.new.m (settled-long S) last (half_is P.before.before.half-half.ensures))
          ∙ (λ i. along_block (s.requires.1.1 i) s.args.shape.width s.args.shape.height (m i) (P.before.before.before.last_shift-last.ensures.0 i))
          ∙ whole-block (given s),
    )

same_length : tie.Need-shape_of-r
same_length c = block-long (plan-given (given (origin (middle c.before.before.before.before.before)))) (returns c).1

pub eight_spec : {M : Type 1} → statement M
eight_spec =
    tie.close
    (tie.spec
    cast-w
    cast-h
    slice-aggregate-zip
    zip-requires
    put-requires
    slice-aggregate-lines
    slice-aggregate-lines-2
    lines-requires
    slice-aggregate-settle
    settle-requires
    last-shift-requires
    half-requires
    put-requires-2
    slice-aggregate-lines-3
    slice-aggregate-lines-4
    lines-requires-2
    same_length
    returns)
