-- `quick_four` meets its contract: what was clipped is what is read, and both stages of it are the block. Assumes nothing.
use borrow.Author.Rules.{rules}
use native.Mathlib.Omega.{arith}
use mathlib.Core.Path.{◌≡◌, refl, sym, ◌∙◌}
use mathlib.Core.Bool.{true≢false}
use mathlib.Core.List.{List}
use Prim.Native.Nat.{ℕ, ◌≤◌}
use borrow.Author.Tests.{not-false}
use lib.IntN.{ℤ, pos}
use lib.ListN.{length, take, replicate, length-replicate}
use Rattle.algebra.proofs.Lists.{zeros-at}
use Rattle.meaning.specs.declared.Shape.{Shape}
use Rattle.meaning.proofs.Cases.{depth-cases}
use Rattle.narrowing.specs.Narrow.{Narrowed}
use Rattle.transform_short.specs.Short.{dct2_shape, GivenRead, GivenStaged, Quick}
use Rattle.transform_short.proofs.Narrowed as narrowed
use Rattle.transform_short.proofs.Narrowed.{to-clip, given-again, square, sixteen, four-block, four-rails, worked-quick}
use Rattle.transform_short.proofs.quick.quick_four.Statement.{statement}
use Rattle.transform_short.proofs.quick.quick_four.Tie as tie

abbrev shape : tie.Start → Shape
shape s = dct2_shape s.args.width s.args.height s.args.depth s.args.columns s.args.rows

enough : (s : tie.Start) → length s.args.numbers.now ≤ length (replicate 16 (pos 0))
enough s = omega (arith, length-replicate 16 (pos 0), s.requires.few)

slice-aggregate-clip-read : tie.Need-slice_bounds-clip_read-end
slice-aggregate-clip-read c = search rules

clip-read-requires : tie.Need-clip_read-requires
clip-read-requires c κs = let s = c.before in to-clip (shape s) s.args.numbers.now s.requires.taken s.requires.long (replicate 16 (pos 0)) (enough s) (zeros-at 16)

same_length : tie.Need-shape_of-numbers-then-not-clip_read
same_length c = search rules

returns : tie.Need-returns-then-not-clip_read
returns c = record { left = λ _. refl; fits = λ e. absurd (true≢false (sym e)); done = λ e. absurd (true≢false (sym e)) }

-- ---- what was clipped is what is read
module _ (c : tie.Else-not-clip_read) where
  abbrev s : tie.Start
  s = c.before.before.before.before

  abbrev n : List ℤ
  n = s.args.numbers.now

  abbrev room : List ℤ
  room = c.before.before.clip_read.new.room

  abbrev front : List ℤ
  front = take (length n) room

  held : Narrowed (length (replicate 16 (pos 0))) n s.args.width s.args.columns s.args.rows s.args.width room
  held = (c.before.before.clip_read.ensures c.if-not-clip_read.false).0

  read : GivenRead (shape s) n
  read = record { taken = s.requires.taken; long = s.requires.long; fits = (c.before.before.clip_read.ensures c.if-not-clip_read.false).1 }

  there : length n ≤ length room
  there = narrowed.there (shape s) n read (length (replicate 16 (pos 0))) (enough s) room held

  long : length front ≡ length n
  long = narrowed.long (shape s) n read (length (replicate 16 (pos 0))) (enough s) room held

  given : GivenStaged (shape s) front n
  given = narrowed.given (shape s) n read (length (replicate 16 (pos 0))) (enough s) room held

  few : length front ≤ 16
  few = omega (arith, long, s.requires.few)

  all : length front ≡ 16
  all = sixteen (shape s) front n given few

  deep : (8 ≤ s.args.depth) × (s.args.depth ≤ 12)
  deep = depth-cases s.args.depth s.requires.taken.depth

array-share-prefix-room : tie.Need-slice_bounds-room-end
array-share-prefix-room c = there c

slice-aggregate-both : tie.Need-slice_bounds-both-end
slice-aggregate-both c = sym (long c.before)

sub-both : tie.Need-overflow_sub-depth
sub-both c = omega (arith, deep c.before)

both-requires : tie.Need-both-requires
both-requires c κs =
    let E = c.before.before in
    let d = deep E in
    (all E, ((square (shape (s E)) (front E) (n E) (given E) (few E)).0, ((omega (arith, d), omega (arith, d)), sym (long E) ∙ all E)))

array-share-prefix-room-2 : tie.Need-slice_bounds-room-end-then-both
array-share-prefix-room-2 c = there c.before.before.before.before.before

slice-aggregate-by-call : tie.Need-slice_bounds-by_call-end
slice-aggregate-by-call c = sym (long c.before.before.before.before.before.before)

by-call-requires : tie.Need-by_call-requires
by-call-requires c κs =
    let B = c.before.before.before.before in
    let E = B.before.before.before in
    given-again (shape (s E)) (front E) (n E) B.both.new.r B.both.auto.r (given E)

same-length-2 : tie.Need-shape_of-numbers-then-both
same-length-2 c = search rules

returns-2 : tie.Need-returns-then-both
returns-2 c =
    let E = c.before.before.before.before.before.before.before.before.before in
    worked-quick (shape (s E)) (n E) (read E) (length (replicate 16 (pos 0))) (enough (s E)) (room E) (held E) _ _ c.before.by_call.ensures

same-length-3 : tie.Need-shape_of-numbers
same-length-3 c = search rules

returns-3 : tie.Need-returns
returns-3 c =
    let B = c.before.before in
    let E = B.before.before.before in
    worked-quick (shape (s E)) (n E) (read E) (length (replicate 16 (pos 0))) (enough (s E)) (room E) (held E) _ _ (
      four-rails (shape (s E)) (front E) (n E) (given E) (few E) refl refl (B.both.ensures.1 c.if-both.false),
      four-block (shape (s E)) (front E) (n E) (given E) (few E) refl refl _ B.both.ensures.0,
    )

pub quick_four_spec : {M : Type 1} → statement M
quick_four_spec =
    tie.close
    (tie.spec
    slice-aggregate-clip-read
    clip-read-requires
    same_length
    returns
    array-share-prefix-room
    slice-aggregate-both
    sub-both
    both-requires
    array-share-prefix-room-2
    slice-aggregate-by-call
    by-call-requires
    same-length-2
    returns-2
    same-length-3
    returns-3)
