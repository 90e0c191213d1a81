-- `lying` meets its contract: sums and differences down the columns, then two lines. Assumes nothing.
use borrow.Author.Rules.{rules}
use native.Mathlib.Omega.{arith}
use mathlib.Core.Path.{◌≡◌, refl, sym, ap, ◌∙◌, subst}
use mathlib.Core.List.{List}
use Prim.Native.Nat.{ℕ, ◌+◌, ◌*◌, ◌-◌, ◌≤◌, ◌<◌, min}
use lib.IntN.{ℤ}
use lib.ListN.{length, take}
use Rattle.algebra.proofs.Lists.{zeros-at, part-long, block-length}
use Rattle.meaning.specs.Inverse.{rails, residual, inverse_block}
use Rattle.product.proofs.Laid.{half-rounds}
use Rattle.inverse_stage.specs.Given.{Paired}
use Rattle.inverse_stage.proofs.Work.{sums}
use Rattle.transform_pairs.specs.Pairs.{short_plan}
use Rattle.transform_two.specs.Two.{GivenSides}
use Rattle.transform_two.proofs.Both.{two, paired, laid, narrow-given, cross-sums, cross-rails, held, held-long, held_at, lying-given, lying-done, block-long}
use Rattle.transform_two.proofs.stages.lying.Statement.{statement}
use Rattle.transform_two.proofs.stages.lying.Tie as tie

-- the rooms of a line
step-paired : (s : tie.Start) → Paired s.args.step
step-paired s = subst Paired (sym s.requires.1.1) (paired s.args.horizontal s.args.w s.requires.0.pairs.sized.along)

narrow : (s : tie.Start) → s.args.step ≤ s.args.w
narrow s = omega (arith, s.requires.1.1)

within : (s : tie.Start) → s.args.columns ≤ s.args.step
within s = omega (arith, s.requires.1.1, s.requires.0.pairs.columns, s.requires.0.pairs.sized.columns)

slice-aggregate-narrow : tie.Need-slice_bounds-narrow-end
slice-aggregate-narrow c = search rules

narrow-requires : tie.Need-narrow-requires
narrow-requires c κs = let s = c.before in narrow-given s.args.w s.args.horizontal s.args.columns s.args.rows s.args.last s.args.numbers.now s.requires.0 s.args.step (step-paired s) (narrow s) (within s) refl (zeros-at 64)

crossed-requires : tie.Need-crossed-requires
crossed-requires c κs = let s = c.before.before.before.before.before in ((step-paired s).few, (c.before.before.before.narrow.ensures.long, refl))

mul-tile : tie.Need-overflow_mul-tile
mul-tile c = let s = c.before.before.before.before.before.before in omega (arith, (step-paired s).few)

sub-settle : tie.Need-slice_bounds-settle-count
sub-settle c = omega arith

part-settle-start : tie.Need-slice_bounds-settle-start
part-settle-start c = omega arith

part-settle-end : tie.Need-slice_bounds-settle-end
part-settle-end c = let s = c.before.before.before.before.before.before in omega (arith, c.crossed.ensures.long, (step-paired s).few)

sub-settle-2 : tie.Need-slice_bounds-settle-count-2
sub-settle-2 c = omega arith

part-s-start : tie.Need-slice_bounds-s-start
part-s-start c = omega arith

part-s-end : tie.Need-slice_bounds-s-end
part-s-end c = let s = c.before.before.before.before.before.before.before in omega (arith, c.narrow.ensures.long, (step-paired s).few)

settle-requires : tie.Need-settle-rails-requires
settle-requires c κs =
    let s = c.before.before.before.before.before.before.before.before in
    let e = part-long (2 * s.args.step) c.crossed.new.e (omega (arith, c.crossed.ensures.long, (step-paired s).few)) in
    (e ∙ sym (part-long (2 * s.args.step) c.narrow.new.room (omega (arith, c.narrow.ensures.long, (step-paired s).few))), omega (arith, e, (step-paired s).few))

half-requires : tie.Need-half-half-requires
half-requires c κs = let s = c.before.before.before.before.before.before.before.before.before.before in (s.requires.0.pairs.some, s.requires.0.pairs.short)

-- what is settled, and the sums that it was made of
abbrev start : tie.After-settle-rails → tie.Start
start c = c.before.before.before.before.before.before.before.before.before

are-sums : (c : tie.After-settle-rails) → let s = start c in take (2 * s.args.step - 0) c.crossed.new.e ≡ sums (laid s.args.w s.args.horizontal s.args.columns s.args.rows s.args.last s.args.numbers.now s.requires.0 s.args.step (step-paired s) (narrow s) (within s))
are-sums c = let s = start c in cross-sums s.args.w s.args.horizontal s.args.columns s.args.rows s.args.last s.args.numbers.now s.requires.0 s.args.step (step-paired s) (narrow s) (within s) _ c.narrow.ensures c.crossed.ensures

rails-are : (c : tie.After-settle-rails) → let s = start c in c.settle-rails.result ≡ rails (short_plan s.args.w 2 s.args.horizontal 0 s.args.columns s.args.rows s.args.last) s.args.numbers.now
rails-are c = let s = start c in cross-rails s.args.w s.args.horizontal s.args.columns s.args.rows s.args.last s.args.numbers.now s.requires.0 s.args.step (step-paired s) (narrow s) (within s) c.narrow.new.room (are-sums c) c.settle-rails.ensures c.narrow.ensures.long

lines-of-requires : tie.Need-lines_of-requires
lines-of-requires c κs =
    let S = c.before.before.before.before in
    let s = start S in
    lying-given s.args.w s.args.horizontal s.args.columns s.args.rows s.args.last s.args.numbers.now s.requires.0 s.args.step (step-paired s) (narrow s) (within s) S.narrow.new.room (are-sums S) S.settle-rails.ensures S.narrow.ensures.long c.before.before.half-half.ensures s.requires.1.0 s.requires.1.1

returns : tie.Need-returns
returns c =
    let S = c.before.before.before.before.before.before in
    let s = start S in
    (rails-are S, lying-done s.args.w s.args.horizontal s.args.columns s.args.rows s.args.last s.args.numbers.now s.requires.0 s.args.step (step-paired s) (narrow s) (within s) S.narrow.new.room (are-sums S) S.settle-rails.ensures S.narrow.ensures.long c.before.before.before.before.half-half.ensures s.requires.1.0 s.requires.1.1 c.before.lines_of.ensures)

same_length : tie.Need-shape_of-numbers
same_length c = let s = c.before.before.before.before.before.before.before.before.before.before.before.before.before.before.before in block-long s.args.w 2 s.args.horizontal 0 s.args.columns s.args.rows s.args.last s.args.numbers.now s.requires.0 (returns c).1

pub lying_spec : {M : Type 1} → statement M
lying_spec =
    tie.close
    (tie.spec
    slice-aggregate-narrow
    narrow-requires
    crossed-requires
    mul-tile
    sub-settle
    part-settle-start
    part-settle-end
    sub-settle-2
    part-s-start
    part-s-end
    settle-requires
    half-requires
    lines-of-requires
    same_length
    returns)
