-- `square` meets its contract: sums and differences down the columns, then along the rows. Assumes nothing.
use borrow.Author.Rules.{rules}
use native.Mathlib.Omega.{arith}
use mathlib.Core.Path.{◌≡◌, refl, sym, ap, ◌∙◌, subst}
use mathlib.Core.List.{List}
use Prim.Native.Nat.{ℕ, ◌+◌, ◌*◌, ◌-◌, ◌≤◌, ◌<◌, min}
use lib.IntN.{ℤ}
use lib.ListN.{length, take}
use Rattle.algebra.specs.Lists.{at}
use Rattle.algebra.proofs.Lists.{zeros-at, part-long, block-length}
use Rattle.meaning.specs.Inverse.{rails, residual, inverse_block}
use Rattle.product.proofs.Laid.{half-rounds}
use Rattle.inverse_stage.specs.Given.{Paired}
use Rattle.inverse_stage.proofs.Work.{sums}
use Rattle.transform_pairs.specs.Pairs.{short_plan}
use Rattle.transform_two.specs.Two.{GivenSides}
use Rattle.transform_two.proofs.Both.{two, paired, laid, narrow-given, cross-sums, cross-rails, held, held-long, held_at, rows-done, block-long}
use Rattle.transform_two.proofs.stages.square.Statement.{statement}
use Rattle.transform_two.proofs.stages.square.Tie as tie

slice-aggregate-narrow : tie.Need-slice_bounds-narrow-end
slice-aggregate-narrow c = search rules

narrow-requires : tie.Need-narrow-requires
narrow-requires c κs = let s = c.before in narrow-given 2 0 s.args.columns s.args.rows s.args.last s.args.numbers.now s.requires 2 two (omega arith) s.requires.pairs.sized.columns refl (zeros-at 64)

crossed-requires : tie.Need-crossed-requires
crossed-requires c κs = (omega arith, (c.before.before.before.narrow.ensures.long, refl))

sub-settle : tie.Need-slice_bounds-settle-count
sub-settle c = omega arith

part-settle-start : tie.Need-slice_bounds-settle-start
part-settle-start c = omega arith

part-settle-end : tie.Need-slice_bounds-settle-end
part-settle-end c = omega (arith, c.crossed.ensures.long)

sub-settle-2 : tie.Need-slice_bounds-settle-count-2
sub-settle-2 c = omega arith

part-s-start : tie.Need-slice_bounds-s-start
part-s-start c = omega arith

part-s-end : tie.Need-slice_bounds-s-end
part-s-end c = omega (arith, c.narrow.ensures.long)

settle-requires : tie.Need-settle-rails-requires
settle-requires c κs =
    let e = part-long (2 * 2) c.crossed.new.e (omega (arith, c.crossed.ensures.long)) in
    (e ∙ sym (part-long (2 * 2) c.narrow.new.room (omega (arith, c.narrow.ensures.long))), omega (arith, e))

half-requires : tie.Need-half-half-requires
half-requires c κs = let s = c.before.before.before.before.before.before.before.before.before.before in (s.requires.pairs.some, s.requires.pairs.short)

-- what is settled, and the sums that it was made of
abbrev start : tie.After-settle-rails → tie.Start
start c = c.before.before.before.before.before.before.before.before.before

are-sums : (c : tie.After-settle-rails) → let s = start c in take (2 * 2 - 0) c.crossed.new.e ≡ sums (laid 2 0 s.args.columns s.args.rows s.args.last s.args.numbers.now s.requires 2 two (omega arith) s.requires.pairs.sized.columns)
are-sums c = let s = start c in cross-sums 2 0 s.args.columns s.args.rows s.args.last s.args.numbers.now s.requires 2 two (omega arith) s.requires.pairs.sized.columns _ c.narrow.ensures c.crossed.ensures

rails-are : (c : tie.After-settle-rails) → let s = start c in c.settle-rails.result ≡ rails (short_plan 2 2 0 0 s.args.columns s.args.rows s.args.last) s.args.numbers.now
rails-are c = let s = start c in cross-rails 2 0 s.args.columns s.args.rows s.args.last s.args.numbers.now s.requires 2 two (omega arith) s.requires.pairs.sized.columns c.narrow.new.room (are-sums c) c.settle-rails.ensures c.narrow.ensures.long

-- the room behind it
abbrev room : tie.After-settle-rails → List ℤ
room c = let s = start c in held 2 0 s.args.columns s.args.rows s.args.last s.args.numbers.now s.requires 2 two (omega arith) s.requires.pairs.sized.columns c.narrow.new.room (are-sums c) c.settle-rails.ensures c.narrow.ensures.long

room-long : (c : tie.After-settle-rails) → length (room c) ≡ 64
room-long c = let s = start c in held-long 2 0 s.args.columns s.args.rows s.args.last s.args.numbers.now s.requires 2 two (omega arith) s.requires.pairs.sized.columns c.narrow.new.room (are-sums c) c.settle-rails.ensures c.narrow.ensures.long

slice-aggregate-rows-of-two : tie.Need-slice_bounds-rows_of_two-end
slice-aggregate-rows-of-two c = sym (room-long c.before.before.before)

rows-of-two-requires : tie.Need-rows_of_two-requires
rows-of-two-requires c κs =
    let S = c.before.before.before.before in
    let s = start S in
    record { there = λ y h. omega (arith, room-long S); low = omega arith; rounding = half-rounds c.before.before.half-half.ensures; room = omega (arith, s.requires.pairs.long) }

returns : tie.Need-returns
returns c =
    let S = c.before.before.before.before.before.before in
    let s = start S in
    let near : (i y : ℕ) → y * 2 + i * 1 ≡ i + y * 2 = λ i y. omega arith in (
      rails-are S,
      rows-done 2 0 s.args.columns s.args.rows s.args.last s.args.numbers.now s.requires 2 two (omega arith) s.requires.pairs.sized.rows (room S) 2 1 c.before.before.before.before.half-half.ensures
          (λ i y k v. ap (at (room S)) (near i y) ∙ held_at 2 0 s.args.columns s.args.rows s.args.last s.args.numbers.now s.requires 2 two (omega arith) s.requires.pairs.sized.columns S.narrow.new.room (are-sums S) S.settle-rails.ensures S.narrow.ensures.long i y k v) c.before.rows_of_two.ensures,
    )

same_length : tie.Need-shape_of-numbers
same_length c = let s = c.before.before.before.before.before.before.before.before.before.before.before.before.before.before.before in block-long 2 2 0 0 s.args.columns s.args.rows s.args.last s.args.numbers.now s.requires (returns c).1

pub square_spec : {M : Type 1} → statement M
square_spec =
    tie.close
    (tie.spec
    slice-aggregate-narrow
    narrow-requires
    crossed-requires
    sub-settle
    part-settle-start
    part-settle-end
    sub-settle-2
    part-s-start
    part-s-end
    settle-requires
    half-requires
    slice-aggregate-rows-of-two
    rows-of-two-requires
    same_length
    returns)
