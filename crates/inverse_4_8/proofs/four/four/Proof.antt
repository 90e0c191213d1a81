-- `four::four` meets its contract: both stages, and the rail count between them. Assumes nothing.
use borrow.Author.Rules.{rules}
use native.Mathlib.Omega.{arith}
use mathlib.Core.Path.{◌≡◌, refl, sym, ap, ◌∙◌}
use Prim.Native.Nat.{◌*◌}
use lib.ListN.{length}
use Rattle.algebra.proofs.Lists.{block-length, tab-length}
use Rattle.inverse_stage.specs.Given.{GivenStages}
use Rattle.inverse_4_8.specs.Square.{Square, down_block, along_block}
use Rattle.inverse_stage.proofs.Work.{plan-given, sums, settled, counted, block-long}
use Rattle.inverse_4_8.proofs.Square.{whole-sums, whole-block}
use Rattle.inverse_4_8.proofs.four.four.Statement.{statement}
use Rattle.inverse_4_8.proofs.four.four.Tie as tie

given : (s : tie.Start) → GivenStages s.args.shape s.args.shape.height s.args.shape.width s.args.c.now s.args.r.now
given s = s.requires.0

square : (s : tie.Start) → Square 4 s.args.shape
square s = s.requires.1

elements : (s : tie.Start) → s.args.shape.width * s.args.shape.height ≡ 16
elements s = λ i. (square s).width i * (square s).height i

down-requires : tie.Need-down-requires
down-requires c κs = let s = c.before in ((given s).block.taken.vertical, ((given s).block.long ∙ elements s, refl))

-- the rounded sums of the first stage
abbrev start : tie.After-down → tie.Start
start c = c.before.before

first-long : (c : tie.After-down) → length c.down.new.e ≡ 16
first-long c = ap length c.down.ensures ∙ block-length 4 4 _

first : (c : tie.After-down) → c.down.new.e ≡ sums (plan-given (given (start c)))
first c =
    let s = start c in
    c.down.ensures ∙ sym (λ i. down_block s.args.shape.vertical ((square s).width i) ((square s).height i) s.args.c.now) ∙ whole-sums (given s)

slice-aggregate-settle : tie.Need-slice_bounds-settle-end
slice-aggregate-settle c = sym (first-long c.before)

slice-aggregate-settle-2 : tie.Need-slice_bounds-settle-end-2
slice-aggregate-settle-2 c = search rules

settle-requires : tie.Need-settle-rails-requires
settle-requires c κs = let e = first-long c.before.before in (e, omega arith)

-- the middle values, and the rail count
abbrev downed : tie.After-settle-rails → tie.After-down
downed c = c.before.before.before

settled-long : (c : tie.After-settle-rails) → length c.settle-rails.new.m ≡ 16
settled-long c = ap length c.settle-rails.ensures.0 ∙ tab-length _ _ ∙ first-long (downed c)

cast-along : tie.Need-overflow_cast-shape
cast-along c = search rules

last-shift-requires : tie.Need-last_shift-requires
last-shift-requires c κs = (given (start (downed c.before.before.before))).block.taken.depth

along-requires : tie.Need-along-requires
along-requires c κs =
    let S = c.before.before.before.before.before in
    let s = start (downed S) in
    ((given s).block.taken.horizontal, (c.before.last_shift.ensures.1, (settled-long S, ((given s).block.room ∙ elements s, (square s).width))))

returns : tie.Need-returns
returns c =
    let A = c.before in
    let S = A.before.before.before.before.before.before in
    let s = start (downed S) in
    let m = settled (plan-given (given s)) (first (downed S)) S.settle-rails.ensures in (
      counted (plan-given (given s)) (first (downed S)) S.settle-rails.ensures,
      A.along.ensures
          ∙ sym (λ i. along_block s.args.shape.horizontal ((square s).width i) ((square s).height i) (sym m i) (sym A.before.before.last_shift.ensures.0 i))
          ∙ whole-block (given s),
    )

same_length : tie.Need-shape_of-r
same_length c = block-long (plan-given (given (start (downed c.before.before.before.before.before.before.before)))) (returns c).1

pub four_spec : {M : Type 1} → statement M
four_spec =
    tie.close
    (tie.spec
    down-requires
    slice-aggregate-settle
    slice-aggregate-settle-2
    settle-requires
    cast-along
    last-shift-requires
    along-requires
    same_length
    returns)
