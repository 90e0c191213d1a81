-- `small` meets its contract: both stages on the narrowed numbers. Assumes nothing.
use borrow.Author.Rules.{rules}
use native.Mathlib.Omega.{arith}
use mathlib.Core.Path.{sym}
use mathlib.Core.List.{List}
use Prim.Native.Nat.{◌≤◌}
use lib.IntN.{ℤ, pos}
use lib.ListN.{length, replicate, length-replicate}
use Rattle.algebra.proofs.Lists.{zeros-at}
use Rattle.transform_short.proofs.Narrowed.{there, long, given, told}
use Rattle.transform_short.proofs.rooms.small.Statement.{statement}
use Rattle.transform_short.proofs.rooms.small.Tie as tie

-- the numbers fit in the room
enough : (s : tie.Start) → length s.args.numbers.now ≤ length (replicate 256 (pos 0))
enough s = omega (arith, length-replicate 256 (pos 0), s.requires.1)

abbrev room : tie.After-read → List ℤ
room c = c.read.new.room

slice-aggregate-read : tie.Need-slice_bounds-read-end
slice-aggregate-read c = search rules

read-requires : tie.Need-read-requires
read-requires c κs = let s = c.before in (s.requires.0, (enough s, zeros-at 256))

array-share-prefix-room : tie.Need-slice_bounds-room-end
array-share-prefix-room c =
    let R = c.before in
    let s = R.before.before in
    there s.args.shape s.args.numbers.now s.requires.0 (length (replicate 256 (pos 0))) (enough s) (room R) R.read.ensures

slice-aggregate-staged : tie.Need-slice_bounds-staged-end
slice-aggregate-staged c =
    let R = c.before.before in
    let s = R.before.before in
    sym (long s.args.shape s.args.numbers.now s.requires.0 (length (replicate 256 (pos 0))) (enough s) (room R) R.read.ensures)

staged-requires : tie.Need-staged-requires
staged-requires c κs =
    let R = c.before.before.before in
    let s = R.before.before in
    given s.args.shape s.args.numbers.now s.requires.0 (length (replicate 256 (pos 0))) (enough s) (room R) R.read.ensures

same_length : tie.Need-shape_of-numbers
same_length c = search rules

returns : tie.Need-returns
returns c =
    let R = c.before.before.before.before.before in
    let s = R.before.before in
    told s.args.shape s.args.numbers.now s.requires.0 (length (replicate 256 (pos 0))) (enough s) (room R) R.read.ensures _ _ c.before.staged.ensures

pub small_spec : {M : Type 1} → statement M
small_spec = tie.close (tie.spec slice-aggregate-read read-requires array-share-prefix-room slice-aggregate-staged staged-requires same_length returns)
