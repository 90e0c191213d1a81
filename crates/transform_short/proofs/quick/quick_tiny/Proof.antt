-- `quick_tiny` meets its contract: what was clipped is what is read, and both stages of it are the block. Assumes nothing.
use borrow.Author.Rules.{rules}
use native.Mathlib.Omega.{arith}
use mathlib.Core.Path.{◌≡◌, refl, sym}
use mathlib.Core.Bool.{true≢false}
use mathlib.Core.List.{List}
use Prim.Native.Nat.{◌≤◌}
use borrow.Author.Tests.{not-false}
use lib.IntN.{ℤ, pos}
use lib.ListN.{length, replicate, length-replicate}
use Rattle.algebra.proofs.Lists.{zeros-at}
use Rattle.meaning.specs.declared.Shape.{Shape}
use Rattle.narrowing.specs.Narrow.{Narrowed}
use Rattle.transform_short.specs.Short.{dct2_shape, GivenRead}
use Rattle.transform_short.proofs.Narrowed.{to-clip, there, long, given, worked-quick}
use Rattle.transform_short.proofs.quick.quick_tiny.Statement.{statement}
use Rattle.transform_short.proofs.quick.quick_tiny.Tie as tie

abbrev shape : tie.Start → Shape
shape s = dct2_shape s.args.width s.args.height s.args.depth s.args.columns s.args.rows

enough : (s : tie.Start) → length s.args.numbers.now ≤ length (replicate 64 (pos 0))
enough s = omega (arith, length-replicate 64 (pos 0), s.requires.few)

slice-aggregate-clip-read : tie.Need-slice_bounds-clip_read-end
slice-aggregate-clip-read c = search rules

clip-read-requires : tie.Need-clip_read-requires
clip-read-requires c κs = let s = c.before in to-clip (shape s) s.args.numbers.now s.requires.taken s.requires.long (replicate 64 (pos 0)) (enough s) (zeros-at 64)

same_length : tie.Need-shape_of-numbers-then-not-clip_read
same_length c = search rules

returns : tie.Need-returns-then-not-clip_read
returns c = record { left = λ _. refl; fits = λ e. absurd (true≢false (sym e)); done = λ e. absurd (true≢false (sym e)) }

-- ---- what was clipped is what is read
module _ (c : tie.Else-not-clip_read) where
  abbrev s : tie.Start
  s = c.before.before.before.before

  abbrev n : List ℤ
  n = s.args.numbers.now

  abbrev room : List ℤ
  room = c.before.before.clip_read.new.room

  held : Narrowed (length (replicate 64 (pos 0))) n s.args.width s.args.columns s.args.rows s.args.width room
  held = (c.before.before.clip_read.ensures c.if-not-clip_read.false).0

  read : GivenRead (shape s) n
  read = record { taken = s.requires.taken; long = s.requires.long; fits = (c.before.before.clip_read.ensures c.if-not-clip_read.false).1 }

array-share-prefix-room : tie.Need-slice_bounds-room-end
array-share-prefix-room c = there (shape (s c)) (n c) (read c) (length (replicate 64 (pos 0))) (enough (s c)) (room c) (held c)

slice-aggregate-staged : tie.Need-slice_bounds-staged-end
slice-aggregate-staged c = let E = c.before in sym (long (shape (s E)) (n E) (read E) (length (replicate 64 (pos 0))) (enough (s E)) (room E) (held E))

staged-requires : tie.Need-staged-requires
staged-requires c κs = let E = c.before.before in given (shape (s E)) (n E) (read E) (length (replicate 64 (pos 0))) (enough (s E)) (room E) (held E)

same-length-2 : tie.Need-shape_of-numbers
same-length-2 c = search rules

returns-2 : tie.Need-returns
returns-2 c =
    let E = c.before.before.before.before in
    worked-quick (shape (s E)) (n E) (read E) (length (replicate 64 (pos 0))) (enough (s E)) (room E) (held E) _ _ c.before.staged.ensures

pub quick_tiny_spec : {M : Type 1} → statement M
quick_tiny_spec =
    tie.close
    (tie.spec
    slice-aggregate-clip-read
    clip-read-requires
    same_length
    returns
    array-share-prefix-room
    slice-aggregate-staged
    staged-requires
    same-length-2
    returns-2)
